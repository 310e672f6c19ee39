-- What the code answers for test 14, and the numbers that it keeps on the way. No theorem speaks of these. Assumes nothing.
use Rattle.std.specs.Prelude.{ℕ, zero, suc, Bool, true, cond, List, length, min, Option, Some, None}
use Rattle.segment.specs.Blocks.{free_at, product}
use Rattle.acceptance_storage.specs.Tests.{every}
use Rattle.acceptance_storage.specs.Blocks.{free_starts, is_length, array_test, blocks_test}

-- Test 14 passes, with the number of free blocks; or it fails.
unfoldable pub blocks_answer : List ℕ → Option ℕ
blocks_answer s = cond (blocks_test s) (Some (length (free_starts s))) None

-- The words that a proper block covers, where there are any.
abbrev pub proper : ℕ → Option ℕ
proper zero = None
proper (suc n) = Some (suc n)

-- The inside of a block: a free one has none to be tested.
abbrev pub inside_test : List ℕ → ℕ → Bool
inside_test s a = cond (free_at s a) true (array_test s a)

-- More elements than any SIZE allows, in the place of any such number.
abbrev pub too_many : ℕ
too_many = 65536

abbrev pub capped : ℕ → ℕ
capped n = min n too_many

-- The number of elements by the lengths; too many where one is no length.
unfoldable pub element_count : List ℕ → ℕ
element_count shape = cond (every is_length shape) (capped (product shape)) too_many
