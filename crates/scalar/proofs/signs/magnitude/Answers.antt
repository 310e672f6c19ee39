use Rattle.std.proofs.Common.{sym, ◌∙◌}
use Rattle.scalar.specs.Operators.{magnitude_of}
use Rattle.scalar.proofs.Operands.{number-character, number-plain}
use Rattle.scalar.proofs.signs.magnitude.Goals as goal

pub returns-then-is_character : goal.returns-then-is_character
unfolding magnitude_of
returns-then-is_character c = sym (number-character c.args.a _ (sym c.is_character.ensures ∙ c.if-is_character.true))

pub returns : goal.returns
unfolding magnitude_of
returns c = c.with_sign.ensures ∙ sym (number-plain c.args.a _ (sym c.is_character.ensures ∙ c.if-is_character.false))
