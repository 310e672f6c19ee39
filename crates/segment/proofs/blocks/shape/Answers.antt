use Rattle.segment.specs.Parts.{shape_part}
use Rattle.segment.proofs.blocks.shape.Goals as goal

pub returns : goal.returns
unfolding shape_part
returns c = cc
