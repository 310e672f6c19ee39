use Rattle.segment.specs.State.{set_iorg}
use Rattle.segment.proofs.state.set_iorg.Goals as goal

pub returns : goal.returns
unfolding set_iorg
returns c = cc
