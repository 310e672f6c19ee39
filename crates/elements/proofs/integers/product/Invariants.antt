use Prim.Native.Nat.{◌-◌, ◌^◌, ◌<◌}
use Rattle.scalar.specs.Operators.{product}
use Rattle.elements.specs.Parts.{Plain}
use Rattle.elements.proofs.Fast.{Fast}
use Rattle.elements.proofs.integers.product.Given as goal

abbrev pub invariant-loop-i : goal.invariant-loop-i
invariant-loop-i l = Fast product (Plain l.seen × (l.sizes < 2 ^ 23)) l.a l.b l.n l.initial.out l.out l.i

abbrev pub decreases-loop-i : goal.decreases-loop-i
decreases-loop-i l = l.n - l.i
