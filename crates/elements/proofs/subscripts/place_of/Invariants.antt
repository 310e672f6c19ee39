use Rattle.elements.proofs.Places.{Horner}
use Rattle.elements.proofs.subscripts.place_of.Given as goal

abbrev pub invariant-loop-i : goal.invariant-loop-i
invariant-loop-i l = Horner l.origin l.subscripts l.lengths l.at l.i
