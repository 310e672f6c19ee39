use mathlib.Core.Path.{◌≡◌}
use Prim.Native.Nat.{◌+◌, ◌-◌}
use native.Mathlib.Omega.{arith}
use Rattle.segment.proofs.Copies.{moved_on, moved_down, copied_behind, copied_below}
use Rattle.segment.proofs.copy_part.Goals as goal

pub loop-i-preserved : goal.loop-i-preserved
loop-i-preserved c = moved_on _ _ _ _ _ c.loop-i.invariant (omega (arith, c.if-to-from.true))

pub loop-i-else-to-from-preserved : goal.loop-i-else-to-from-preserved
loop-i-else-to-from-preserved c = let l = c.loop-i-else-to-from in moved_down _ _ _ _ _ _ l.invariant c.if-to-from.false c.loop-i-else-to-from-test.true l.auto.i

pub returns-then-from-n : goal.returns-then-from-n
returns-then-from-n c = let cut = c.split_at_mut-low.ensures in
    let n : c.args.from + c.args.n - c.args.from ≡ c.args.n = omega arith in
    copied_behind _ _ _ _ _ _ _ cut.value cut.front_len (rw n at c.copy.ensures) c.if-from-n.true c.requires.1

pub returns-then-to-n : goal.returns-then-to-n
returns-then-to-n c = let cut = c.split_at_mut-low-then-to-n.ensures in
    copied_below _ _ _ _ _ _ _ cut.value cut.front_len c.copy-then-to-n.ensures c.if-to-n.true c.requires.0
