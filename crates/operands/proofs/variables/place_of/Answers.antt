use Rattle.operands.proofs.variables.place_of.Goals as goal

pub returns-in-Local : goal.returns-in-Local
returns-in-Local c = simp (c.in-Local.is, ← c.sbase.ensures, ← c.index.ensures)
