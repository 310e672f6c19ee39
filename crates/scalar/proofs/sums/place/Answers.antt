use Rattle.std.proofs.Common.{eq-eqb, ne_eqb}
use Rattle.scalar.proofs.sums.place.Goals as goal

pub returns-then-s-eq0 : goal.returns-then-s-eq0
returns-then-s-eq0 c = simp (eq-eqb _ _ c.if-s-eq0.true)

pub returns-else-s-eq0 : goal.returns-else-s-eq0
returns-else-s-eq0 c = simp (ne_eqb _ _ c.if-s-eq0.false)
