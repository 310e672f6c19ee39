use lib.ListN.{drop}
use Rattle.line_tool.proofs.Hands.{Going}
use Rattle.line_tool.proofs.pen.Pen.numbers.Given as goal

abbrev pub invariant-loop-n : goal.invariant-loop-n
invariant-loop-n l = Going l.base l.initial.self l.numbers l.self (drop l.n-index l.numbers)
