use Rattle.segment.proofs.blocks.slop_at.Goals as goal

pub returns : goal.returns
returns c = cc
