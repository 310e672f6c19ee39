use Rattle.segment.specs.State.{set_ltop}
use Rattle.segment.proofs.state.set_ltop.Goals as goal

pub returns : goal.returns
unfolding set_ltop
returns c = cc
