use mathlib.Core.Path.{sym, ◌∙◌}
use Rattle.operands.proofs.Scalars.{foreign-taken, none-foreign}
use Rattle.operands.proofs.taken.take_scalars.Goals as goal

pub returns-then-any_foreign : goal.returns-then-any_foreign
returns-then-any_foreign c = foreign-taken _ _ (sym c.any_foreign.ensures ∙ c.if-any_foreign.true)

pub returns : goal.returns
returns c = c.take_words.ensures ∙ none-foreign _ _ (sym c.any_foreign.ensures ∙ c.if-any_foreign.false)
