-- What holds of the segment and of the tables before each part of tests 15–18. No theorem speaks of these. Assumes nothing.
use Rattle.std.specs.Prelude.{ℕ, ◌+◌, ◌-◌, ◌≤◌, ◌≡◌, true, List, length}
use Rattle.segment.specs.State.{sbase}
use Rattle.acceptance_storage.specs.Head.{head_test, Head}
use Rattle.acceptance_storage.specs.Blocks.{array_starts, free_starts, blocks_test}
use Rattle.acceptance_storage.specs.Marks.{Tally, Clear, Marked}
use Rattle.acceptance.specs.Frames.{frames_test}
use Rattle.acceptance.specs.Cells.{range}
use Rattle.acceptance.specs.Tables.{Holds, CanRise, chain_test, chain_variables}

-- Before test 15: tests 13 and 14 have passed; the arrays are marked in one table, the free blocks, `count` of them, in the other.
pub record BeforeRing (s arrays marks : List ℕ) (count : ℕ) : Type 0 where
  pub head : head_test s ≡ true
  pub blocks : blocks_test s ≡ true
  pub longest : length s ≤ 16384
  pub long : length s ≤ length marks
  pub frees : count ≡ length (free_starts s)
  pub marked : Marked s arrays marks

-- Before test 17: tests 13 and 16 have passed; the arrays are marked in one table, and nothing in the other.
pub record BeforeCells (s regular alternate arrays marks : List ℕ) : Type 0 where
  pub head : Head s
  pub longest : length s ≤ 16384
  pub frames : frames_test s regular alternate ≡ true
  pub array_marks : Tally arrays (array_starts s)
  pub clear : Clear marks (length s)

-- Before the cells of the frames from the one at `base` down: they have passed test 16, and their variables are marked.
pub record BeforeStack (s regular alternate arrays marks : List ℕ) (base top : ℕ) : Type 0 where
  pub over : base + 2 ≤ top
  pub inside : sbase s + top ≤ length s
  pub longest : length s ≤ 16384
  pub chain : chain_test s regular alternate base ≡ true
  pub variables : Tally marks (chain_variables s regular alternate base)
  pub room : CanRise arrays top

-- Before the cells of one frame: its variables stand from `start` up to `base`, and are marked.
pub record BeforeFrame (s arrays marks : List ℕ) (args start base top : ℕ) : Type 0 where
  pub arguments : start + args ≤ base
  pub over : base + 2 ≤ top
  pub inside : sbase s + top ≤ length s
  pub longest : length s ≤ 16384
  pub variables : Holds marks (range start (base - start))
  pub room : CanRise arrays top
