use Rattle.segment.proofs.state.step_flag.Goals as goal

pub returns : goal.returns
returns c = cc
