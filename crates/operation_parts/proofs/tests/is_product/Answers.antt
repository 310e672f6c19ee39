use mathlib.Core.Path.{sym, ◌∙◌}
use Rattle.operation_parts.proofs.Products.{empty, divided-on, divided-not}
use Rattle.operation_parts.proofs.tests.is_product.Goals as goal

pub returns-then-contains : goal.returns-then-contains
returns-then-contains c = let a = c.args in empty a.lengths.now a.n (sym c.contains.ensures.value ∙ c.if-contains.true)

pub returns-then-rest-divisor-ne0 : goal.returns-then-rest-divisor-ne0
returns-then-rest-divisor-ne0 c = divided-not c.loop-l.invariant c.loop-l-test.true c.if-rest-divisor-ne0.true

pub loop-l-preserved : goal.loop-l-preserved
loop-l-preserved c = divided-on c.loop-l.invariant c.loop-l-test.true c.if-rest-divisor-ne0.false
