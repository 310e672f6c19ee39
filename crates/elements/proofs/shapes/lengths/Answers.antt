use Rattle.elements.proofs.shapes.lengths.Goals as goal

pub returns : goal.returns
returns c = simp (← c.any_character.ensures, c.if-any_character.false) c.shorts.ensures
