use Rattle.acceptance.proofs.Ranges.{Marking}
use Rattle.acceptance.proofs.variables.mark.Given as goal

abbrev pub invariant-loop-a : goal.invariant-loop-a
invariant-loop-a l = Marking l.start l.end l.initial.marks l.marks l.a
