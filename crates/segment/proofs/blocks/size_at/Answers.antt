use Rattle.segment.proofs.blocks.size_at.Goals as goal

pub returns : goal.returns
returns c = cc
