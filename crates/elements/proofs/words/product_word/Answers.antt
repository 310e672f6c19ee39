use mathlib.Core.Path.{refl}
use Rattle.elements.proofs.Integral.{fast-product}
use Rattle.elements.proofs.words.product_word.Goals as goal

pub returns-then-m-eq0 : goal.returns-then-m-eq0
returns-then-m-eq0 c = λ p q h. fast-product c.args.x c.args.y c.product_size.result 0 p q c.product_size.ensures h (λ z. refl) (λ k. absurd (k c.if-m-eq0.true))

pub returns-else-m-eq0 : goal.returns-else-m-eq0
returns-else-m-eq0 c = λ p q h. fast-product c.args.x c.args.y c.product_size.result _ p q c.product_size.ensures h (λ z. absurd (c.if-m-eq0.false z)) (λ k. refl)
