use Rattle.std.proofs.Common.{◌∙◌}
use Rattle.scalar.proofs.Addition.{added-integer}
use Rattle.scalar.proofs.sums.integer_sum.Goals as goal

pub returns : goal.returns
returns c = c.integer.ensures ∙ added-integer c.args.s c.args.n c.args.t c.args.m _ _ c.add_signed-x.ensures
