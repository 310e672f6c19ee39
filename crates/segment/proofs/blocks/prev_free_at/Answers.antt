use Rattle.segment.proofs.blocks.prev_free_at.Goals as goal

pub returns : goal.returns
returns c = cc
