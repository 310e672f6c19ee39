use borrow.Author.Tests.{eq-eqb, ne_eqb}
use Rattle.instructions_control.proofs.jumps.only.Goals as goal

pub returns-then-ravel-eq1 : goal.returns-then-ravel-eq1
returns-then-ravel-eq1 c = simp (eq-eqb _ _ c.if-ravel-eq1.true, ← c.truth.ensures)

pub returns : goal.returns
returns c = simp (ne_eqb _ _ c.if-ravel-eq1.false)
