use Rattle.line_tool.proofs.Putting.{digits-start}
use Rattle.line_tool.proofs.writing.decimal_digits.Goals as goal

pub loop-at-init : goal.loop-at-init
loop-at-init c = (c.requires, digits-start _ _ c.requires)
