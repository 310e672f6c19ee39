use native.Mathlib.Omega.{arith}
use Rattle.instructions_values.proofs.Vectors.{numbers-long}
use Rattle.instructions_values.proofs.arrays.generate.Goals as goal

pub returns-then-scratch-n : goal.returns-then-scratch-n
returns-then-scratch-n c = let a = c.args in
    numbers-long a.seg.now _ a.n a.next.0 (omega arith)
