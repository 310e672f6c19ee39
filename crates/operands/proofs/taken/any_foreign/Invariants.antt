use Rattle.operands.specs.Taken.{is_foreign_to}
use Rattle.operands.proofs.Scalars.{Passed}
use Rattle.operands.proofs.taken.any_foreign.Given as goal

abbrev pub invariant-loop-k : goal.invariant-loop-k
invariant-loop-k l = Passed (is_foreign_to l.strict) l.seg l.i l.n l.k
