use Rattle.tally.specs.Counts.{added}
use Rattle.tally.proofs.Tally.plus.Goals as goal

pub returns : goal.returns
unfolding added
returns c = cc
