use Rattle.operation_parts.proofs.Products.{Divided}
use Rattle.operation_parts.proofs.tests.is_product.Given as goal

abbrev pub invariant-loop-l : goal.invariant-loop-l
invariant-loop-l l = Divided l.lengths l.n l.rest l.l-index
