use Rattle.operator.proofs.Once.{SoFar}
use Rattle.operator.proofs.lent.is_table.Given as goal

abbrev pub invariant-loop-place : goal.invariant-loop-place
invariant-loop-place l = SoFar l.table l.seen l.place-index
