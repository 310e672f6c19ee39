use native.Mathlib.Omega.{arith}
use mathlib.Core.Logic.{⊎_elim}
use mathlib.Core.Path.{◌≡◌, ap, ◌∙◌}
use Rattle.manual.specs.OrTrap.{OrTrap}
use Rattle.manual.specs.Scalars as plan
use Rattle.manual.specs.Values as values
use Rattle.operands.specs.Operands.{held}
use Rattle.effects.specs.Carried.{carry}
use Rattle.instructions_values.proofs.Vectors.{shaped-many, shaped-empty, shaped-filled}
use Rattle.instructions_values.proofs.arrays.fill_shape.Goals as goal

pub returns-then-n-ge65536 : goal.returns-then-n-ge65536
returns-then-n-ge65536 c = let a = c.args in
    rw (← shaped-many a.lengths.now (held a.seg.now a.b) c.product-n.result c.product-n.ensures (omega arith))

pub returns-then-n-ne0 : goal.returns-then-n-ne0
returns-then-n-ne0 c = let a = c.args in
    rw (← shaped-empty a.lengths.now (held a.seg.now a.b) c.product-n.result c.product-n.ensures (omega arith) (omega arith) c.if-n-ne0.true)

pub returns : goal.returns
returns c = let a = c.args in
    let filled : values.size (held a.seg.now a.b) ≡ 0 → c.product-n.result ≡ 0 = λ none.
    ⊎_elim (λ w. w.1) (λ w. absurd (w (c.size_of.ensures ∙ none))) c.else-size_of-eq0.either in
    c.repeated.ensures ∙ ap (λ (r : OrTrap values.Value). carry a.seg.now (plan.replace_by a.next.0 2 r)) (shaped-filled a.lengths.now (held a.seg.now a.b) c.product-n.result c.product-n.ensures (omega arith) filled)
