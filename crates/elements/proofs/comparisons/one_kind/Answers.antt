use Rattle.elements.proofs.comparisons.one_kind.Goals as goal

pub returns-then-floats : goal.returns-then-floats
returns-then-floats c = simp c.if-floats.true

pub returns-else-floats : goal.returns-else-floats
returns-else-floats c = simp c.if-floats.false c.plain.ensures
