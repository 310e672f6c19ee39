use Rattle.std.proofs.Common.{sym, ◌∙◌}
use Rattle.scalar.proofs.Operands.{first-character, first_plain}
use Rattle.scalar.proofs.words.one_character.Goals as goal

pub returns-then-is_character : goal.returns-then-is_character
returns-then-is_character c = c.if-is_character.true ∙ sym (first-character c.args.a c.args.b (sym c.is_character.ensures ∙ c.if-is_character.true))

pub returns-else-is_character : goal.returns-else-is_character
returns-else-is_character c = c.is_character-else-is_character.ensures ∙ sym (first_plain c.args.a c.args.b (sym c.is_character.ensures ∙ c.if-is_character.false))
