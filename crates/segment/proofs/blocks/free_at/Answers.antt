use Rattle.segment.proofs.blocks.free_at.Goals as goal

pub returns : goal.returns
returns c = cc
