use Rattle.line_tool.proofs.Entries.{line-between}
use Rattle.line_tool.proofs.tables.line.Goals as goal

pub returns : goal.returns
returns c = line-between _ _ _ c.args.k c.line_end-end.ensures.value c.line_start-start.ensures.1
