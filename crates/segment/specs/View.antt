-- The machine that a data segment is: as words, and as values. The view is what demand 2 speaks of. It needs no procedure
-- segment. Assumes nothing.
use Rattle.std.specs.Prelude.{ℕ, zero, suc, ◌+◌, ◌-◌, ◌/◌, ◌^◌, cond, List, [], ◌∷◌, leb}
use Rattle.segment.specs.State.{sbase, ltop, lbase, flags, blockptr}
use Rattle.segment.specs.Blocks.{part}
use Rattle.segment.specs.Stack.{last_lbase_at, code_word_at, pctr, downward}
use Rattle.segment.specs.Cells.{Cell, cell}
use Rattle.segment.specs.Machine.{Frame, Machine, map_machine, all_cells}

-- The frame at `base`, whose cells start at the stack address `start`.
abbrev pub frame_at : List ℕ → ℕ → ℕ → Frame ℕ
frame_at s base start = record { function = code_word_at s base / 2 ^ 16; pctr = pctr (code_word_at s base); cells = downward s (sbase s + start) (base - start) }

-- The frames from the one at `base` down. The bottom frame is the one whose last LBASE is not below its own LBASE.
unfoldable pub frames_from : ℕ → List ℕ → ℕ → List (Frame ℕ)
frames_from zero s base = []
frames_from (suc fuel) s base =
    let older = frames_from fuel s (last_lbase_at s base) in
    cond (leb base (last_lbase_at s base)) (frame_at s base 0 ∷ []) (frame_at s base (last_lbase_at s base + 2) ∷ older)

-- Temporaries stand from LBASE + 2 to LTOP, globals from 8 to BLOCKPTR−1.
unfoldable pub words : List ℕ → Machine ℕ
words s =
    record {
      flags = flags s;
      temporaries = downward s (sbase s + lbase s + 2) (ltop s - (lbase s + 1));
      frames = frames_from (suc (lbase s)) s (lbase s);
      globals = part s 8 (blockptr s - 8);
    }

-- The words that own arrays: those of all cells.
abbrev pub owners : List ℕ → List ℕ
owners s = all_cells (words s)

unfoldable pub view : List ℕ → Machine Cell
view s = map_machine (cell s) (words s)
