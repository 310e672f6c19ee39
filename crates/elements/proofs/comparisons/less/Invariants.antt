use Prim.Native.Nat.{◌-◌}
use mathlib.Core.Path.{◌≡◌}
use mathlib.Core.Bool.{true}
use Rattle.scalar.specs.Operators.{less}
use Rattle.elements.specs.Parts.{one_kind}
use Rattle.elements.proofs.Fast.{Fast}
use Rattle.elements.proofs.comparisons.less.Given as goal

abbrev pub invariant-loop-i : goal.invariant-loop-i
invariant-loop-i l = Fast less (one_kind l.floats l.seen ≡ true) l.a l.b l.n l.initial.out l.out l.i

abbrev pub decreases-loop-i : goal.decreases-loop-i
decreases-loop-i l = l.n - l.i
