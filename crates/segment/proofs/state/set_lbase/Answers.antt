use Rattle.segment.specs.State.{set_lbase}
use Rattle.segment.proofs.state.set_lbase.Goals as goal

pub returns : goal.returns
unfolding set_lbase
returns c = cc
