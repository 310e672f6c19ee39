use Prim.Native.Nat.{◌-◌}
use Rattle.scalar.specs.Operators.{sum}
use Rattle.elements.specs.Parts.{Plain}
use Rattle.elements.proofs.Fast.{Fast}
use Rattle.elements.proofs.integers.sum.Given as goal

abbrev pub invariant-loop-i : goal.invariant-loop-i
invariant-loop-i l = Fast sum (Plain l.seen) l.a l.b l.n l.initial.out l.out l.i

abbrev pub decreases-loop-i : goal.decreases-loop-i
decreases-loop-i l = l.n - l.i
