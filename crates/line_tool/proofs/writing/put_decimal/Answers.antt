use Rattle.line_tool.proofs.Putting.{digits-cut}
use Rattle.line_tool.proofs.writing.put_decimal.Goals as goal

pub returns : goal.returns
returns c = cc (digits-cut _ _ _ c.decimal_digits-first.ensures.1 c.decimal_digits-first.ensures.2)
