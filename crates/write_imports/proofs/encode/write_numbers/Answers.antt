use native.Mathlib.Omega.{arith}
use Rattle.write_imports.proofs.Writing.{numbers-short, going_on, going_done}
use Rattle.write_imports.proofs.encode.write_numbers.Goals as goal

pub loop-n-preserved : goal.loop-n-preserved
loop-n-preserved c = going_on c.loop-n.invariant _ _ (omega arith) c.write_number-to.ensures.out_after c.write_number-to.ensures.value

pub returns-clause-value : goal.returns-clause-value
returns-clause-value c = let w = going_done c.loop-n.invariant (omega arith) in (w.place, omega (arith, w.place, numbers-short c.args.numbers.now))
