use Rattle.segment.proofs.blocks.rank.Goals as goal

pub returns : goal.returns
returns c = cc
