use Rattle.descriptor.specs.Kinds.{is_scalar}
use native.Mathlib.Omega.{arith}
use mathlib.Core.Path.{sym, ap, ◌∙◌}
use lib.ListN.{length-set}
use Rattle.operands.proofs.Scalars.{stored_on, stored-stop, stored-all}
use Rattle.operands.proofs.taken.take_words.Goals as goal

pub returns-then-not-is_scalar : goal.returns-then-not-is_scalar
returns-then-not-is_scalar c = stored-stop c.loop-k.invariant.1 (omega arith) (omega arith) _ c.operand_at-w.ensures (ap is_scalar (sym c.of.ensures) ∙ sym c.is_scalar.ensures ∙ c.if-not-is_scalar.true)

pub loop-k-preserved : goal.loop-k-preserved
loop-k-preserved c = (simp length-set c.loop-k.invariant.0, stored_on c.loop-k.invariant.1 (omega arith) (omega arith) _ c.operand_at-w.ensures (omega arith) (ap is_scalar (sym c.of.ensures) ∙ sym c.is_scalar.ensures ∙ c.if-not-is_scalar.false))

pub returns : goal.returns
returns c = stored-all c.loop-k.invariant.1 (omega arith)
