use Rattle.std.proofs.Common.{ℕ, ap, ◌∙◌}
use Rattle.scalar.specs.Value.{one}
use Rattle.scalar.specs.Results.{rounded}
use Rattle.scalar.specs.Operators.{product_sign}
use Rattle.scalar.proofs.Multiplication.{product_value, short-product}
use Rattle.scalar.proofs.products.float_product.Goals as goal

pub overflow_mul-p : goal.overflow_mul-p
overflow_mul-p c = short-product c.unpack-p.ensures.short c.unpack-q.ensures.short

pub returns : goal.returns
returns c = c.rounded.ensures ∙ ap (λ (n : ℕ). rounded (product_sign c.args.a c.args.b) n one) (product_value _ _ _ _ _ _ c.unpack-p.ensures.value c.unpack-q.ensures.value)
