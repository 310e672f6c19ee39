use native.Mathlib.Omega.{arith}
use Rattle.elements.proofs.Collecting.{spread-one, spread-all}
use Rattle.elements.proofs.extension.pick.Goals as goal

pub offset_bounds-a-i : goal.offset_bounds-a-i
offset_bounds-a-i c = omega (arith, c.requires c.if-a-eq1.false)

pub bounds-a-i : goal.bounds-a-i
bounds-a-i c = c.requires c.if-a-eq1.false

pub returns-then-a-eq1 : goal.returns-then-a-eq1
returns-then-a-eq1 c = λ n h. spread-one n c.args.i c.args.a.now c.if-a-eq1.true h

pub returns-else-a-eq1 : goal.returns-else-a-eq1
returns-else-a-eq1 c = λ n h. spread-all n c.args.i c.args.a.now c.if-a-eq1.false
