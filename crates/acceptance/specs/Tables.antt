-- The tables that tests 17 and 18 keep beside a segment, and what the code's parts of tests 16–18 are about. No theorem speaks
-- of these. Assumes nothing.
use Rattle.std.specs.Prelude.{ℕ, ◌+◌, ◌-◌, ◌≤◌, ◌<◌, ◌^◌, suc, ◌≡◌, Bool, false, cond, ◌&&◌, List, ◌++◌, get_or, set, length, leb}
use Rattle.descriptor.specs.Fields.{is_array, address, array_word}
use Rattle.segment.specs.State.{sbase}
use Rattle.segment.specs.Blocks.{part}
use Rattle.segment.specs.Machine.{cells_of_frames}
use Rattle.segment.specs.View.{frames_from, owners}
use Rattle.storage.specs.Heap.{count}
use Rattle.acceptance_storage.specs.Blocks.{starts_from, array_starts}
use Rattle.acceptance.specs.Frames.{known, arguments, variables, frames_pass}
use Rattle.acceptance.specs.Cells.{in_table, range, variables_from, frame_cells, cells_from}

-- ---- tables

-- A table to which the members of a list were added.
pub record Gains (before after l : List ℕ) : Type 0 where
  pub sum : (x : ℕ) → get_or after x 0 ≡ get_or before x 0 + count x l

-- A table that has the members of a list, and what it says once they are taken away.
abbrev pub Holds : List ℕ → List ℕ → Type 0
Holds table l = (x : ℕ) → count x l ≤ get_or table x 0

abbrev pub lacking : List ℕ → List ℕ → ℕ → ℕ
lacking table l x = get_or table x 0 - count x l

-- Every mark can rise by `n`: it has 16 bits.
abbrev pub CanRise : List ℕ → ℕ → Type 0
CanRise table n = (x : ℕ) → get_or table x 0 + n < 2 ^ 16

-- A table with one mark more at an address that has one.
abbrev pub raised_at : List ℕ → ℕ → List ℕ
raised_at table a = cond (leb 1 (get_or table a 0)) (set table a (get_or table a 0 + 1)) table

-- A table of arrays once a cell was met: one more at the array that the cell points to, if that has a mark.
unfoldable pub meet : List ℕ → ℕ → List ℕ
meet table w = cond (is_array w && leb 1 (get_or table (address w) 0)) (set table (address w) (get_or table (address w) 0 + 1)) table

-- The same once all of these cells were met: what has a mark is as before, and has one more for each cell that points to it.
pub record Met (before after cells : List ℕ) : Type 0 where
  pub same : (x : ℕ) → leb 1 (get_or after x 0) ≡ leb 1 (get_or before x 0)
  pub sum : (x : ℕ) → x < 2 ^ 16 → 1 ≤ get_or before x 0 → get_or after x 0 ≡ get_or before x 0 + count (array_word x) cells

-- A table that has at each of these arrays one mark, and one more for each cell that points to it.
abbrev pub TalliedAt : List ℕ → List ℕ → List ℕ → Type 0
TalliedAt s arrays table = (x : ℕ) → 0 < count x arrays → get_or table x 0 ≡ 1 + count (array_word x) (owners s)

abbrev pub Tallied : List ℕ → List ℕ → Type 0
Tallied s table = TalliedAt s (array_starts s) table

-- The arrays from `a` up to `end`.
abbrev pub arrays_from : List ℕ → ℕ → ℕ → List ℕ
arrays_from s a end = starts_from false (length s) s a end

-- ---- frames and their cells

-- The frames from the one at `base` down: test 16, their variables, and test 17, with the temporaries of the first below `top`.
abbrev pub chain_test : List ℕ → List ℕ → List ℕ → ℕ → Bool
chain_test s regular alternate base = frames_pass (length s) (known regular alternate) (variables regular alternate) s base

abbrev pub chain_variables : List ℕ → List ℕ → List ℕ → ℕ → List ℕ
chain_variables s regular alternate base = variables_from (length s) (variables regular alternate) s base

abbrev pub stack_test : List ℕ → List ℕ → List ℕ → (ℕ → ℕ) → ℕ → ℕ → Bool
stack_test s regular alternate arrays base top = cells_from (length s) (arguments regular alternate) (variables regular alternate) s arrays base top

-- The temporaries of the frame at `base`, below `top`; all its cells, with its arguments and locals from `start` on; and those of
-- the frames from it down.
abbrev pub temporaries_of : List ℕ → ℕ → ℕ → List ℕ
temporaries_of s base top = part s (sbase s + base + 2) (top - (base + 2))

abbrev pub cells_of_frame : List ℕ → ℕ → ℕ → ℕ → List ℕ
cells_of_frame s start base top = temporaries_of s base top ++ part s (sbase s + start) (base - start)

abbrev pub cells_of_stack : List ℕ → ℕ → ℕ → List ℕ
cells_of_stack s base top = temporaries_of s base top ++ cells_of_frames (frames_from (suc base) s base)

-- Test 17 of one frame, where `marks` has its variables and those of the older frames: its arguments may name these only.
abbrev pub frame_test : List ℕ → List ℕ → List ℕ → ℕ → ℕ → ℕ → ℕ → Bool
frame_test s arrays marks args start base top =
    frame_cells s (in_table arrays) (in_table marks) (lacking marks (range start (base - start))) args start base top
