use Prim.Native.Nat.{◌-◌, ◌<◌}
use lib.ListN.{length}
use Rattle.acceptance.specs.Frames.{variables}
use Rattle.acceptance.proofs.VariableMarks.{Marked}
use Rattle.acceptance.proofs.variables.mark_variables.Given as goal

abbrev pub invariant-frames : goal.invariant-frames
invariant-frames l = (l.base < 16384) × Marked (variables l.regular l.alternate) l.seg l.initial.base l.initial.marks l.marks l.base (length l.seg - l.counter)
