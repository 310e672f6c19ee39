use Rattle.std.proofs.Common.{sym, ◌∙◌}
use Rattle.scalar.specs.Operators.{floor}
use Rattle.scalar.proofs.Operands.{number-character, number-plain}
use Rattle.scalar.proofs.wholes.floor.Goals as goal

pub returns-then-is_character : goal.returns-then-is_character
unfolding floor
returns-then-is_character c = sym (number-character c.args.a _ (sym c.is_character.ensures ∙ c.if-is_character.true))

pub returns : goal.returns
unfolding floor
returns c = c.whole_near.ensures ∙ sym (number-plain c.args.a _ (sym c.is_character.ensures ∙ c.if-is_character.false))
