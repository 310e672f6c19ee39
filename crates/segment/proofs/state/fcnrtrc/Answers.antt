use Rattle.segment.proofs.state.fcnrtrc.Goals as goal

pub returns : goal.returns
returns c = cc
