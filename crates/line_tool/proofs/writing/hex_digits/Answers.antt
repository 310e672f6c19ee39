use Rattle.line_tool.specs.Writing.{hex}
use Rattle.line_tool.proofs.writing.hex_digits.Goals as goal

pub returns : goal.returns
unfolding hex
returns c = simp (← c.glyph.ensures, ← c.glyph-2.ensures, ← c.glyph-3.ensures, ← c.glyph-4.ensures, ← c.glyph-5.ensures, ← c.glyph-6.ensures, ← c.glyph-7.ensures, ← c.glyph-8.ensures)
