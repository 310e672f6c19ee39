use Rattle.segment.specs.Stack.{set_pctr}
use Rattle.segment.proofs.stack.set_pctr.Goals as goal

pub returns : goal.returns
unfolding set_pctr
returns c = cc
