use Prim.Native.Nat.{◌-◌}
use Rattle.imports.proofs.Writing.{Writing}
use Rattle.imports.proofs.write.write_number.Given as goal

abbrev pub invariant-loop : goal.invariant-loop
invariant-loop l = Writing l.n l.at l.initial.out l.out l.rest l.to (4 - l.counter)
