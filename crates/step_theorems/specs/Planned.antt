-- The plan of the next instruction of a machine, told by its cells: the current frame says which function runs, and where.
-- Nothing here speaks of storage. Assumes nothing.
use Rattle.std.specs.Prelude.{ℕ, ◌-◌, Bool, List, [], ◌∷◌, eqb, length, Option, Some, None}
use Rattle.procedure.specs.declared.header.Header.{Header}
use Rattle.procedure.specs.declared.header.Block.{Block}
use Rattle.procedure.specs.Directory.{function_of, header_of_function}
use Rattle.segment.specs.State.{sbase}
use Rattle.segment.specs.Stack as stack
use Rattle.segment.specs.Stack.{function_number}
use Rattle.segment.specs.Cells.{Cell}
use Rattle.segment.specs.Machine.{Frame, Machine}
use Rattle.segment.specs.View.{view}
use Rattle.acceptance.specs.Frames.{frame_segment}
use Rattle.manual.specs.OrTrap.{trap}
use Rattle.manual.specs.Effects.{Plan}
use Rattle.manual.specs.Seen.{seen_of}
use Rattle.manual.specs.Program.{Program}
use Rattle.manual.specs.Instructions.{running, plan_at}
use Rattle.legality.specs.Legal.{function_word}

-- P of a frame.
abbrev pub frame_selector : Frame Cell → Bool
frame_selector r = eqb (stack.alternate_bit (function_word r)) 1

abbrev pub plan_in : Program → ℕ → Machine Cell → Frame Cell → Option Block → Plan
plan_in p words m r (Some block) = plan_at (running p (frame_selector r) block) (seen_of words m) r.pctr
plan_in p words m r None = trap 3 1

abbrev pub plan_from : Program → ℕ → Machine Cell → List (Frame Cell) → Plan
plan_from p words m [] = trap 3 1
plan_from p words m (r ∷ older) = plan_in p words m r (function_of (frame_segment p.regular p.alternate (function_word r)) (function_number (function_word r)))

-- On a stack of `words` words.
unfoldable pub next_plan : Program → ℕ → Machine Cell → Plan
next_plan p words m = plan_from p words m m.frames

-- The plan of the next instruction, by the view of the segment.
abbrev pub planned : List ℕ → Program → Plan
planned s p = next_plan p (length s - sbase s) (view s)

-- The header of the current frame's function. A machine has at least one frame.
abbrev pub header_from : List ℕ → List ℕ → List (Frame Cell) → Header
header_from regular alternate [] = header_of_function regular 0
header_from regular alternate (r ∷ older) = header_of_function (frame_segment regular alternate (function_word r)) (function_number (function_word r))

abbrev pub header_in : List ℕ → List ℕ → Machine Cell → Header
header_in regular alternate m = header_from regular alternate m.frames
