use Rattle.std.proofs.Common.{◌∙◌}
use Rattle.scalar.proofs.Addition.{added-near}
use Rattle.scalar.proofs.sums.near_sum.Goals as goal

pub returns : goal.returns
returns c = c.rounded.ensures ∙ added-near c.args.s c.args.n c.args.t c.args.m _ _ c.add_signed-x.ensures c.args.e
