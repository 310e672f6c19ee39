use mathlib.Core.Path.{◌∙◌}
use Rattle.operands.proofs.Whole.{whole-lengths}
use Rattle.operands.proofs.reading.lengths_of.Goals as goal

pub returns : goal.returns
returns c = c.shape.ensures ∙ whole-lengths _ _ c.requires
