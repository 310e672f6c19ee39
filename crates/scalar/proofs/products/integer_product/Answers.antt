use Rattle.std.proofs.Common.{arith}
use Rattle.scalar.proofs.Multiplication.{short-product}
use Rattle.scalar.proofs.products.integer_product.Goals as goal

pub overflow_mul-a : goal.overflow_mul-a
overflow_mul-a c = short-product (omega arith) (omega arith)
