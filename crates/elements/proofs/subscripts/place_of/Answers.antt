use native.Mathlib.Omega.{arith}
use Rattle.elements.proofs.Places.{horner-start, horner-done, turn-product, turn-sum, turn}
use Rattle.elements.proofs.subscripts.place_of.Goals as goal

pub loop-i-init : goal.loop-i-init
loop-i-init c = horner-start c.requires.2

pub overflow_mul-at : goal.overflow_mul-at
overflow_mul-at c = omega (arith, turn-product c.loop-i.invariant c.requires.0 c.requires.1 c.requires.2 c.loop-i-test.true)

pub overflow_add-at : goal.overflow_add-at
overflow_add-at c = omega (arith, turn-sum c.loop-i.invariant c.requires.0 c.requires.1 c.requires.2 c.loop-i-test.true c.offset.ensures)

pub loop-i-preserved : goal.loop-i-preserved
loop-i-preserved c = (turn c.loop-i.invariant c.requires.0 c.requires.1 c.requires.2 c.loop-i-test.true c.offset.ensures)

pub returns : goal.returns
returns c = horner-done c.loop-i.invariant (omega arith) (omega arith)
