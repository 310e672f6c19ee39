use Rattle.storage.specs.Arrays.{raise}
use Rattle.storage.proofs.arrays.raise.Goals as goal

pub returns : goal.returns
unfolding raise
returns c = cc
