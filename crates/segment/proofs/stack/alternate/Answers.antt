use Rattle.segment.proofs.stack.alternate.Goals as goal

pub returns : goal.returns
returns c = cc
