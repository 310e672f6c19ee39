use Rattle.write_imports.proofs.Writing.{Going}
use Rattle.write_imports.proofs.encode.write_numbers.Given as goal

abbrev pub invariant-loop-n : goal.invariant-loop-n
invariant-loop-n l = Going l.numbers l.initial.out l.at l.out l.to l.n-index
