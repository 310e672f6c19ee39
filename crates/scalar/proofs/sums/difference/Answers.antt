use Rattle.std.proofs.Common.{sym, ◌∙◌}
use Rattle.scalar.specs.Operators.{difference}
use Rattle.scalar.proofs.Operands.{numbers-character, numbers-plain, small-numbers, small-integers}
use Rattle.scalar.proofs.Addition.{minus-integers}
use Rattle.scalar.proofs.sums.difference.Goals as goal

pub returns-then-both_small : goal.returns-then-both_small
unfolding difference
returns-then-both_small c = let h = (sym c.both_small.ensures ∙ c.if-both_small.true) in let k = small-integers c.args.a c.args.b h in c.integer_difference.ensures ∙ minus-integers c.args.a c.args.b k.0 k.1 ∙ sym (numbers-plain c.args.a c.args.b _ (small-numbers c.args.a c.args.b h))

pub returns-then-one_character : goal.returns-then-one_character
unfolding difference
returns-then-one_character c = sym (numbers-character c.args.a c.args.b _ (sym c.one_character.ensures ∙ c.if-one_character.true))

pub returns : goal.returns
unfolding difference
returns c = c.minus.ensures ∙ sym (numbers-plain c.args.a c.args.b _ (sym c.one_character.ensures ∙ c.if-one_character.false))
