-- Test 18: "a count that is zero or not the number of cells pointing to the array", with decision 10 of docs/DECISIONS.md.
-- Assumes nothing.
use Rattle.std.specs.Prelude.{ℕ, Bool, ◌&&◌, List, leb, eqb}
use Rattle.descriptor.specs.Fields.{array_word}
use Rattle.segment.specs.Blocks.{count_at}
use Rattle.storage.specs.Heap.{count}
use Rattle.segment.specs.View.{owners}
use Rattle.acceptance_storage.specs.Tests.{every}
use Rattle.acceptance_storage.specs.Blocks.{array_starts}

-- The count of the array at `a` is not zero and is the number of cells that hold its word.
unfoldable pub count_test : List ℕ → List ℕ → ℕ → Bool
count_test s cells a = leb 1 (count_at s a) && eqb (count_at s a) (count (array_word a) cells)

unfoldable pub counts_test : List ℕ → Bool
counts_test s = every (count_test s (owners s)) (array_starts s)
