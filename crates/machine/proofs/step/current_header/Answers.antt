use Rattle.effects.specs.Step.{current_header}
use Rattle.machine.proofs.step.current_header.Goals as goal

pub returns : goal.returns
unfolding current_header
returns c = (cc)
