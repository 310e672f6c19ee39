use Rattle.manual.specs.Values.{up_from}
use Rattle.elements.proofs.Filling.{Filled}
use Rattle.elements.proofs.copies.up_from.Given as goal

abbrev pub invariant-loop-i : goal.invariant-loop-i
invariant-loop-i l = Filled (up_from l.k l.i-end) l.initial.to l.to l.i
