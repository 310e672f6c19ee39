use Rattle.segment.proofs.state.fcnctrc.Goals as goal

pub returns : goal.returns
returns c = cc
