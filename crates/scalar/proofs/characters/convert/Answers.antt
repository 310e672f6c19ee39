use Rattle.std.proofs.Common.{ℕ, ◌%◌, ◌^◌, ap, Ok}
use Rattle.scalar.specs.Operators.{convert}
use Rattle.scalar.proofs.Units.{integer-code}
use Rattle.scalar.proofs.characters.convert.Goals as goal

pub returns-in-Character : goal.returns-in-Character
unfolding convert
returns-in-Character c = simp (← c.whole.ensures, c.in-Character.is) (ap (λ (w : ℕ). Ok w) (integer-code (c.args.a % 2 ^ 8)))

pub returns-in-Fraction : goal.returns-in-Fraction
unfolding convert
returns-in-Fraction c = simp (← c.whole.ensures, c.in-Fraction.is)

pub returns-in-Number : goal.returns-in-Number
unfolding convert
returns-in-Number c = simp (← c.whole.ensures, c.in-Number.is, ← c.character.ensures)
