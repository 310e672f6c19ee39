use mathlib.Core.Path.{◌≡◌, ◌∙◌}
use Prim.Native.Nat.{◌+◌}
use native.Mathlib.Omega.{arith}
use Rattle.segment.proofs.Copies.{list_on, list_all, sets-whole}
use Rattle.segment.proofs.copy.Goals as goal

pub loop-i-preserved : goal.loop-i-preserved
loop-i-preserved c = let z : 0 + c.loop-i.i ≡ c.loop-i.i = omega arith in rw c.loop-i.invariant (rw z at (list_on c.loop-i.i c.args.from.now c.args.to.now 0))

pub returns : goal.returns
returns c = c.loop-i.invariant ∙ list_all c.loop-i.i c.args.from.now c.args.to.now 0 (omega (arith, c.requires, c.loop-i.auto.i-end, c.loop-i-test.false)) ∙ sets-whole c.args.from.now c.args.to.now c.requires
