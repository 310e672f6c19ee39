use Rattle.std.proofs.Common.{◌∙◌}
use Rattle.scalar.proofs.Operands.{first-float, second-float}
use Rattle.scalar.proofs.Multiplication.{product-float, product-integer}
use Rattle.scalar.proofs.products.times.Goals.{else-a-eq0-via-then-a-eq0+else-b-eq0, else-a-eq0-via-else-a-eq0}
use Rattle.scalar.proofs.products.times.Goals as goal

pub returns-then-b-eq0 : goal.returns-then-b-eq0
returns-then-b-eq0 c = c.integer_product.ensures ∙ product-integer c.args.a c.args.b c.if-a-eq0.true c.if-b-eq0.true

pub returns : goal.returns
returns c = let a = c.args in c.float_product.ensures ∙ product-float a.a a.b (elim c.else-a-eq0.branch [
  | else-a-eq0-via-then-a-eq0+else-b-eq0 w ↦ second-float a.a a.b w.if-a-eq0.true w.if-b-eq0.false
  | else-a-eq0-via-else-a-eq0 w ↦ first-float a.a a.b w.if-a-eq0.false
])
