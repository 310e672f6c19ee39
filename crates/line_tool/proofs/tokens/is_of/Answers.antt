use Rattle.line_tool.proofs.tokens.is_of.Goals as goal

pub returns-in-Blank : goal.returns-in-Blank
returns-in-Blank c = simp (c.in-Blank.is, ← c.is_blank.ensures)

pub returns-in-Other : goal.returns-in-Other
returns-in-Other c = simp (c.in-Other.is, ← c.is_blank-in-Other.ensures)

pub returns-in-InLine : goal.returns-in-InLine
returns-in-InLine c = simp c.in-InLine.is
