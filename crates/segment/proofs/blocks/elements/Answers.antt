use Rattle.segment.specs.Parts.{elements_part}
use Rattle.segment.proofs.blocks.elements.Goals as goal

pub returns : goal.returns
unfolding elements_part
returns c = cc
