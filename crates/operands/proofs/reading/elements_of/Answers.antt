use mathlib.Core.Path.{◌∙◌}
use Rattle.operands.proofs.Whole.{whole-elements}
use Rattle.operands.proofs.reading.elements_of.Goals as goal

pub returns : goal.returns
returns c = c.elements.ensures ∙ whole-elements _ _ c.requires
