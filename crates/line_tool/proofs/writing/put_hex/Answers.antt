use Rattle.line_tool.proofs.writing.put_hex.Goals as goal

pub returns : goal.returns
returns c = simp (← c.hex_digits-digits.ensures, ← c.put.ensures)
