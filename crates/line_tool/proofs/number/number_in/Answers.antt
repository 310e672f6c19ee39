use Rattle.line_tool.specs.Numbers.{number_in}
use Rattle.line_tool.proofs.number.number_in.Goals as goal

pub returns-in-Decimal : goal.returns-in-Decimal
unfolding number_in
returns-in-Decimal c = simp (c.in-Decimal.is, ← c.decimal.ensures)

pub returns-in-Hex : goal.returns-in-Hex
unfolding number_in
returns-in-Hex c = simp (c.in-Hex.is, ← c.hex.ensures)
