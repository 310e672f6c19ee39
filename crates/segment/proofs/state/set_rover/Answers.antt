use Rattle.segment.specs.State.{set_rover}
use Rattle.segment.proofs.state.set_rover.Goals as goal

pub returns : goal.returns
unfolding set_rover
returns c = cc
