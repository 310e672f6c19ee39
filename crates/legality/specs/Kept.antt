-- What the plan of an instruction leaves of a legal machine: a legal one again, with its four flags. Told by cells, with no word of
-- storage. Proved in proofs/Kept. Assumes nothing.
use Rattle.std.specs.Prelude.{ℕ, ◌/◌, ◌≡◌, List, ◌∷◌}
use Rattle.instruction.specs.declared.Instruction.{Instruction}
use Rattle.segment.specs.Cells.{Cell}
use Rattle.segment.specs.Machine.{Frame, Machine}
use Rattle.manual.specs.OrTrap.{gives}
use Rattle.manual.specs.Effects.{Effect, perform_all}
use Rattle.manual.specs.Seen.{variables_of, seen_of}
use Rattle.manual.specs.Instructions.{Running, header_of, plan_of}
use Rattle.acceptance.specs.Frames.{variables}
use Rattle.legality.specs.Legal.{function_word, Legal}

-- The function that is run is that of the current frame, which has as many variables as its header says.
pub record RunsIn (regular alternate : List ℕ) (f : Running) (m : Machine Cell) : Type 0 where
  pub regular_segment : f.program.regular ≡ regular
  pub alternate_segment : f.program.alternate ≡ alternate
  pub current : Frame Cell
  pub older : List (Frame Cell)
  pub frames : m.frames ≡ current ∷ older
  pub size : variables_of (header_of f) ≡ variables regular alternate (function_word current)

-- What the effects `es` leave of `m`: a legal machine, with all flags but IORG as they were.
pub record KeepsLegal (regular alternate : List ℕ) (m : Machine Cell) (es : List Effect) : Type 0 where
  pub legal : Legal regular alternate (perform_all es m)
  pub flags : (perform_all es m).flags / 2 ≡ m.flags / 2

pub record KeptTheorems : Type 0 where
  pub kept : {regular alternate : List ℕ} {f : Running} {m : Machine Cell} {es : List Effect}
      → Legal regular alternate m → RunsIn regular alternate f m → (words : ℕ) (i : Instruction) (next : ℕ) → plan_of f (seen_of words m) i next ≡ gives es
      → KeepsLegal regular alternate m es
