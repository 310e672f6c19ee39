use Rattle.segment.proofs.blocks.span_at.Goals as goal

pub returns : goal.returns
returns c = cc
