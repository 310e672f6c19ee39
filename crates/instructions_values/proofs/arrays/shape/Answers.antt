use native.Mathlib.Omega.{arith}
use mathlib.Core.Path.{sym, ap, ◌∙◌}
use Rattle.manual.specs.Scalars as plan
use Rattle.effects.specs.Carried.{carry}
use Rattle.instructions_values.proofs.Taking.{passed-on}
use Rattle.instructions_values.proofs.Vectors.{rank-few}
use Rattle.instructions_values.proofs.arrays.shape.Goals as goal

pub returns-in_err-v : goal.returns-in_err-v
unfolding plan.shape
returns-in_err-v c = passed-on c.from_residual.result c.from_residual.ensures.1 (c.in_err-v.ensures _)

pub keep-rank-requires : goal.keep-rank-requires
keep-rank-requires c = rw c.shape_of.ensures (omega (arith, rank-few _ _ c.in_ok-v.ensures.readable))

pub returns : goal.returns
unfolding plan.shape
returns c = let made = rw (c.keep-rank.ensures.value, c.keep-rank.ensures.to_after, c.shape_of.ensures) at c.replace_by_vector.ensures in
    made ∙ ap (carry c.args.seg.now) (sym (c.in_ok-v.ensures.goes _))
