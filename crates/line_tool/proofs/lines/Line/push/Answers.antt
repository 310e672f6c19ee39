use Rattle.line_tool.proofs.Said.{one-byte}
use Rattle.line_tool.proofs.lines.Line.push.Goals as goal

pub returns-clause-line : goal.returns-clause-line
returns-clause-line c = rw (← one-byte _ c.args.byte) c.extend.ensures.line
