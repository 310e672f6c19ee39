use Rattle.segment.specs.State.{set_trap}
use Rattle.segment.proofs.state.set_trap.Goals as goal

pub returns : goal.returns
unfolding set_trap
returns c = cc
