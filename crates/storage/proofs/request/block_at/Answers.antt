use Rattle.std.proofs.Common.{sym, ◌∙◌, eq-eqb, ne_eqb}
use Rattle.storage.specs.Found.{found}
use Rattle.storage.proofs.request.block_at.Goals as goal

pub returns-then-number-eq0 : goal.returns-then-number-eq0
unfolding found
returns-then-number-eq0 c = simp (eq-eqb _ _ (sym c.number.ensures ∙ c.if-number-eq0.true))

pub returns : goal.returns
unfolding found
returns c = simp (ne_eqb _ _ (λ e. c.if-number-eq0.false (c.number.ensures ∙ e)))
