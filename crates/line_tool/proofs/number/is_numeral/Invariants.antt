use Rattle.line_tool.proofs.Numerals.{NumeralFrom}
use Rattle.line_tool.proofs.number.is_numeral.Given as goal

abbrev pub invariant-loop-b : goal.invariant-loop-b
invariant-loop-b l = NumeralFrom l.base l.word l.b-index
