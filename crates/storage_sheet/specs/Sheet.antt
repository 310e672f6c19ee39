-- The sheet of array storage. Document 02, paper 3: "arrays, slop, free, end, total. They are the sums of SIZE over arrays, of SLOP,
-- of free SIZE, the dummy's 3, and SBASE − BLOCKPTR." The blocks are those that the walk from BLOCKPTR meets. A reader must
-- believe: `sheet_of`. Assumes nothing.
use Rattle.std.specs.Prelude.{ℕ, ◌+◌, ◌-◌, List, [], ◌∷◌}
use Rattle.segment.specs.State.{sbase, blockptr}
use Rattle.segment.specs.Blocks.{size_at, slop_at}
use Rattle.acceptance_storage.specs.Blocks.{free_starts, array_starts}
use Rattle.storage_sheet.specs.declared.Sheet.{Sheet}

-- A number of each member of a list, added up.
abbrev pub sum_of : (ℕ → ℕ) → List ℕ → ℕ
sum_of number [] = 0
sum_of number (x ∷ l) = number x + sum_of number l

-- The sheet with these counts.
abbrev pub sheet_with : ℕ → ℕ → ℕ → ℕ → ℕ → Sheet
sheet_with arrays slop free end total = record { arrays = arrays; slop = slop; free = free; end = end; total = total }

unfoldable pub sheet_of : List ℕ → Sheet
sheet_of s =
    record {
      arrays = sum_of (size_at s) (array_starts s);
      slop = sum_of (slop_at s) (array_starts s);
      free = sum_of (size_at s) (free_starts s);
      end = 3;
      total = sbase s - blockptr s;
    }
