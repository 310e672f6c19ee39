use Prim.Native.Nat.{ℕ, ◌-◌, ◌<◌}
use lib.ListN.{length}
use mathlib.Core.Path.{◌≡◌}
use mathlib.Core.Bool.{false}
use Rattle.storage.specs.Heap.{count}
use Rattle.segment.specs.View.{owners}
use Rattle.acceptance_storage.specs.Tests.{every}
use Rattle.acceptance_storage.specs.Blocks.{starts_from}
use Rattle.acceptance.specs.Counts.{count_test}
use Rattle.acceptance.specs.Tables.{arrays_from}
use Rattle.acceptance.proofs.counts.counts_from.Given as goal

abbrev pub invariant-walk : goal.invariant-walk
invariant-walk l =
    (every (count_test l.seg (owners l.seg)) (arrays_from l.seg l.from l.fn.end) ≡ every (count_test l.seg (owners l.seg)) (starts_from false (length l.seg - l.counter) l.seg l.a l.fn.end))
    × ((x : ℕ) → 0 < count x (starts_from false (length l.seg - l.counter) l.seg l.a l.fn.end) → 0 < count x (arrays_from l.seg l.from l.fn.end))
