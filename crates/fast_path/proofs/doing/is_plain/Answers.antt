use borrow.Author.Tests.{eq-eqb, ne_eqb}
use Rattle.fast_path.proofs.doing.is_plain.Goals as goal

pub returns-then-w-eq-UNDEFINED : goal.returns-then-w-eq-UNDEFINED
returns-then-w-eq-UNDEFINED c = simp (eq-eqb _ _ c.if-w-eq-UNDEFINED.true)

pub returns : goal.returns
returns c = simp (ne_eqb _ _ c.if-w-eq-UNDEFINED.false) c.is_scalar.ensures
