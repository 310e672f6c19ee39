use Rattle.acceptance.proofs.Ranges.{Unmarking}
use Rattle.acceptance.proofs.variables.unmark.Given as goal

abbrev pub invariant-loop-a : goal.invariant-loop-a
invariant-loop-a l = Unmarking l.initial.a l.a-end l.initial.marks l.marks l.a
