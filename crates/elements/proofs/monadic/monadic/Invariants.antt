use Rattle.scalar.specs.Operators.{monadic_of}
use Rattle.manual.specs.Values.{answered}
use Rattle.elements.proofs.Collecting.{EachSoFar}
use Rattle.elements.proofs.monadic.monadic.Given as goal

abbrev pub invariant-loop-i : goal.invariant-loop-i
invariant-loop-i l = EachSoFar (λ w. answered (monadic_of l.operator w)) l.a l.initial.out l.out l.i
