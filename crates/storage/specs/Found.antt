-- The answer of a request as the code gives it: the block's address, where 0 says that no free block is long enough.
-- Assumes nothing.
use Rattle.std.specs.Prelude.{ℕ, cond, ◌==◌, Option, Some, None}
use Rattle.descriptor.specs.Kinds.{segment}
use Rattle.descriptor.specs.declared.address.SegmentAddress.{SegmentAddress}

unfoldable pub found : ℕ → Option SegmentAddress
found a = cond (a == 0) None (Some (segment a))
