use native.Mathlib.Omega.{arith}
use Rattle.instructions_values.proofs.Vectors.{repeated-long}
use Rattle.instructions_values.proofs.arrays.repeated.Goals as goal

pub returns-then-scratch-n : goal.returns-then-scratch-n
returns-then-scratch-n c = let a = c.args in
    repeated-long a.lengths.now a.n c.requires.n_value.0 a.seg.now a.next.0 _ c.requires.n_value.1 (omega arith)
