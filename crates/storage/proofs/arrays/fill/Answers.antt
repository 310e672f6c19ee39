use Rattle.storage.specs.Arrays.{fill}
use Rattle.storage.proofs.arrays.fill.Goals as goal

pub returns : goal.returns
unfolding fill
returns c = cc
