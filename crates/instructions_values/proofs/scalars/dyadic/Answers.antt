use mathlib.Core.Path.{sym, ap, ◌∙◌}
use Rattle.manual.specs.Scalars as plan
use Rattle.effects.specs.Carried.{carry}
use Rattle.instructions_values.proofs.Taking.{passed-on}
use Rattle.instructions_values.proofs.scalars.dyadic.Goals as goal

pub returns-in_err-a : goal.returns-in_err-a
unfolding plan.dyadic
returns-in_err-a c = passed-on c.from_residual.result c.from_residual.ensures.1 (c.in_err-a.ensures _)

pub returns : goal.returns
unfolding plan.dyadic
returns c = c.combine.ensures ∙ ap (carry c.args.seg.now) (sym (c.in_ok-a.ensures.goes _))
