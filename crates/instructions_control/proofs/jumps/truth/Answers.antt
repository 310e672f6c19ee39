use Rattle.instructions_control.proofs.jumps.truth.Goals as goal

pub returns-in-Value : goal.returns-in-Value
returns-in-Value c = simp (← c.truth.ensures, c.in-Value.is)

pub returns-in-Other : goal.returns-in-Other
returns-in-Other c = simp (← c.truth.ensures, c.in-Other.is)

pub returns-in-Character : goal.returns-in-Character
returns-in-Character c = simp (← c.truth.ensures, c.in-Character.is)
