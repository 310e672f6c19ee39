use mathlib.Core.Path.{sym, ◌∙◌}
use Rattle.instructions_memory.proofs.Pushing.{scalar-pushed, no-scalar}
use Rattle.instructions_memory.proofs.loads.constant_scalar.Goals as goal

pub returns-then-is_scalar : goal.returns-then-is_scalar
returns-then-is_scalar c = c.push_word.ensures ∙ scalar-pushed _ _ _ (rw (← c.of.ensures) (sym c.is_scalar.ensures ∙ c.if-is_scalar.true))

pub returns : goal.returns
returns c = no-scalar _ _ _ (rw (← c.of.ensures) (sym c.is_scalar.ensures ∙ c.if-is_scalar.false))
