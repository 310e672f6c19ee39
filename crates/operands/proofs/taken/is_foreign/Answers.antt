use mathlib.Core.Path.{sym, ◌∙◌}
use Rattle.operands.proofs.Scalars.{undefined-foreign, value-foreign, other-none}
use Rattle.operands.proofs.taken.is_foreign.Goals as goal

pub returns-then-is_undefined : goal.returns-then-is_undefined
returns-then-is_undefined c = sym (undefined-foreign _ _ _ (sym c.is_undefined.ensures ∙ c.if-is_undefined.true))

pub returns : goal.returns
returns c = other-none _ _ c.is_none.ensures ∙ sym (value-foreign _ _ c.args.strict _ (sym c.is_undefined.ensures ∙ c.if-is_undefined.false) (sym c.value_of.ensures))
