use native.Mathlib.Omega.{arith}
use mathlib.Core.Path.{sym}
use Rattle.operands.proofs.Scalars.{passed_on, found}
use Rattle.operands.proofs.taken.any_foreign.Goals as goal

pub returns-then-is_foreign : goal.returns-then-is_foreign
returns-then-is_foreign c = sym (found c.loop-k.invariant (omega arith) (omega arith) (cc))

pub loop-k-preserved : goal.loop-k-preserved
loop-k-preserved c = passed_on c.loop-k.invariant (omega arith) (omega arith) (cc)
