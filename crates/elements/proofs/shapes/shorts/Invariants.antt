use Rattle.scalar.specs.Reading.{whole_of}
use Rattle.manual.specs.Values.{short_of}
use Rattle.elements.proofs.Collecting.{EachSoFar}
use Rattle.elements.proofs.shapes.shorts.Given as goal

abbrev pub invariant-loop-i : goal.invariant-loop-i
invariant-loop-i l = EachSoFar (λ w. short_of (whole_of w)) l.ravel l.initial.out l.out l.i
