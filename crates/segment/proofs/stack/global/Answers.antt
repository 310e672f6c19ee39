use Rattle.segment.proofs.stack.global.Goals as goal

pub returns : goal.returns
returns c = cc
