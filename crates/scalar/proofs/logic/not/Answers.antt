use Rattle.scalar.specs.Operators.{not_of}
use Rattle.scalar.proofs.logic.not.Goals as goal

pub returns-in-Character : goal.returns-in-Character
unfolding not_of
returns-in-Character c = simp (← c.truth.ensures, c.in-Character.is)

pub returns-in-Other : goal.returns-in-Other
unfolding not_of
returns-in-Other c = simp (← c.truth.ensures, c.in-Other.is)

pub returns-in-Value : goal.returns-in-Value
unfolding not_of
returns-in-Value c = simp (← c.truth.ensures, c.in-Value.is)
