use mathlib.Core.Path.{sym, ◌∙◌}
use Rattle.fast_path.proofs.Answers.{left}
use Rattle.fast_path.proofs.Decoding.{dyadic-by, monadic-by}
use Rattle.fast_path.proofs.scalar_operation.Goals as goal

pub returns-in_default : goal.returns-in_default
returns-in_default c = λ f. λ of. left

pub returns-in-Dyadic : goal.returns-in-Dyadic
returns-in-Dyadic c = λ f. λ lent. dyadic-by _ f _ _ lent (sym c.operator_under.ensures ∙ c.in-Some.is) c.after-next.ensures c.in-Dyadic.is c.dyadic.ensures

pub returns-in-Monadic : goal.returns-in-Monadic
returns-in-Monadic c = λ f. λ lent. monadic-by _ f _ _ lent (sym c.operator_under.ensures ∙ c.in-Some.is) c.after-next.ensures c.in-Monadic.is c.monadic.ensures
