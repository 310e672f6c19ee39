use Rattle.segment.proofs.blocks.count.Goals as goal

pub returns : goal.returns
returns c = cc
