use mathlib.Core.Path.{◌∙◌}
use Rattle.line_tool.proofs.Sameness.{pointwise-is}
use Rattle.line_tool.proofs.command.is.Goals as goal

pub returns : goal.returns
returns c = c.eq.ensures ∙ pointwise-is _ _
