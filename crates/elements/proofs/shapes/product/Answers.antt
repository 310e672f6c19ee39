use native.Mathlib.Omega.{arith}
use borrow.Author.Rules.{rules}
use Rattle.elements.proofs.Lengths.{bounded-start, bounded-on, bounded-fits, bounded-done}
use Rattle.elements.proofs.shapes.product.Goals as goal

pub loop-n-init : goal.loop-n-init
loop-n-init c = (omega arith, bounded-start)

pub overflow_mul-so_far : goal.overflow_mul-so_far
overflow_mul-so_far c = omega (arith, bounded-fits c.loop-n.invariant.1 (search rules))

pub loop-n-preserved : goal.loop-n-preserved
loop-n-preserved c = (omega arith, bounded-on c.loop-n.invariant.1 (omega arith) c.min-so_far.ensures)

pub overflow_cast-result : goal.overflow_cast-result
overflow_cast-result c = omega (arith, c.loop-n.invariant.1.low)

pub returns : goal.returns
returns c = bounded-done c.loop-n.invariant.1 (omega arith)
