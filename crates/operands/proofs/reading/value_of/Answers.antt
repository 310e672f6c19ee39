use Rattle.operands.specs.Operands.{operand_of}
use Rattle.operands.proofs.ValuesSeen.{no_value}
use Rattle.operands.proofs.reading.value_of.Goals as goal

pub returns-in-Scalar : goal.returns-in-Scalar
unfolding operand_of
returns-in-Scalar c = simp (← c.of.ensures, ← c.kind.ensures, c.in-Scalar.is)

pub returns-in-Array : goal.returns-in-Array
unfolding operand_of
returns-in-Array c = simp (← c.of.ensures, ← c.kind.ensures, c.in-Array.is, ← c.array_at.ensures)

pub returns-in_default : goal.returns-in_default
returns-in_default c = rw (← c.of.ensures) (no_value _ _ _ c.kind.ensures c.in_default.not-Scalar c.in_default.not-Array)
