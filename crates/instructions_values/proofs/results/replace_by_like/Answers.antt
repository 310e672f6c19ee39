use native.Mathlib.Omega.{arith}
use Rattle.instructions_values.proofs.Few.{lengths-few}
use Rattle.instructions_values.proofs.results.replace_by_like.Goals as goal

pub keep-rank-requires : goal.keep-rank-requires
keep-rank-requires c = rw c.lengths_of.ensures (omega (arith, lengths-few _ _ c.requires.1))
