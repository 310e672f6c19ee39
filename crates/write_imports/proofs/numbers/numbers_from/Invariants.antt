use Rattle.write_imports.specs.Lines.{limit_of}
use Rattle.write_imports.proofs.Limits.{Filling}
use Rattle.write_imports.proofs.numbers.numbers_from.Given as goal

abbrev pub invariant-loop-n : goal.invariant-loop-n
invariant-loop-n l = Filling (limit_of l.limit) l.initial.out l.out l.n
