use Rattle.scalar.proofs.Multiplication.{short-product}
use native.Mathlib.Omega.{arith}
use Rattle.elements.proofs.words.product_size.Goals as goal

pub overflow_mul-result : goal.overflow_mul-result
overflow_mul-result c = short-product (omega arith) (omega arith)
