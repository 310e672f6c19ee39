use Rattle.line_tool.proofs.Entries.{Passing}
use Rattle.line_tool.proofs.tables.line_start.Given as goal

abbrev pub invariant-loop-i : goal.invariant-loop-i
invariant-loop-i l = Passing l.text l.k l.left l.i
