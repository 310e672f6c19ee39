use Rattle.operands.proofs.variables.reference_word.Goals as goal

pub returns-in-Local : goal.returns-in-Local
returns-in-Local c = simp (c.in-Local.is, ← c.number.ensures, ← c.of.ensures, ← c.indirect_local.ensures, ← c.word.ensures)

pub returns-in-Global : goal.returns-in-Global
returns-in-Global c = simp (c.in-Global.is, ← c.number-in-Global.ensures, ← c.of-in-Global.ensures, ← c.indirect_global.ensures, ← c.word-in-Global.ensures)
