use native.Mathlib.Omega.{arith}
use mathlib.Core.Path.{sym, ap, ◌∙◌}
use Rattle.manual.specs.Scalars as plan
use Rattle.effects.specs.Carried.{carry}
use Rattle.instructions_values.proofs.Taking.{passed-on}
use Rattle.instructions_values.proofs.Vectors.{size_few}
use Rattle.instructions_values.proofs.arrays.ravel.Goals as goal

pub returns-in_err-v : goal.returns-in_err-v
unfolding plan.ravel
returns-in_err-v c = passed-on c.from_residual.result c.from_residual.ensures.1 (c.in_err-v.ensures _)

pub keep-n-requires : goal.keep-n-requires
keep-n-requires c = rw c.ravel_of.ensures (omega (arith, size_few _ c.requires.0 _ c.in_ok-v.ensures.readable))

pub returns : goal.returns
unfolding plan.ravel
returns c = let made = rw (c.keep-n.ensures.value, c.keep-n.ensures.to_after, c.ravel_of.ensures) at c.replace_by_vector.ensures in
    made ∙ ap (carry c.args.seg.now) (sym (c.in_ok-v.ensures.goes _))
