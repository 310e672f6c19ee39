use Rattle.descriptor.specs.Kinds.{undefined_kind}
use borrow.Author.Tests.{eq-eqb, ne_eqb}
use Rattle.descriptor.proofs.undefined_kind.Goals as goal

pub returns-then-rest-eq0 : goal.returns-then-rest-eq0
unfolding undefined_kind
returns-then-rest-eq0 c = simp (eq-eqb _ _ c.if-rest-eq0.true)

pub returns : goal.returns
unfolding undefined_kind
returns c = simp (ne_eqb _ _ c.if-rest-eq0.false)
