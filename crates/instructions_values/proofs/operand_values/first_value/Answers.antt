use native.Mathlib.Omega.{arith}
use Rattle.instructions_values.proofs.Taking.{first-missing, first-sought}
use Rattle.instructions_values.proofs.operand_values.first_value.Goals as goal

pub returns-then-count-n : goal.returns-then-count-n
returns-then-count-n c = first-missing _ _ (omega arith)

pub returns : goal.returns
returns c = rw c.value_at.ensures (first-sought _ _ c.requires (omega (arith, c.if-count-n.false, c.count.ensures)))
