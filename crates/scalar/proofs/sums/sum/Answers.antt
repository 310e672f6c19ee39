use Rattle.std.proofs.Common.{sym, ◌∙◌}
use Rattle.descriptor.specs.Fields.{sign}
use Rattle.scalar.specs.Operators.{sum}
use Rattle.scalar.proofs.Operands.{numbers-character, numbers-plain, small-numbers, small-integers}
use Rattle.scalar.proofs.Addition.{sum-integers}
use Rattle.scalar.proofs.sums.sum.Goals as goal

pub returns-then-both_small : goal.returns-then-both_small
unfolding sum
returns-then-both_small c = let h = (sym c.both_small.ensures ∙ c.if-both_small.true) in let k = small-integers c.args.a c.args.b h in c.integer_sum.ensures ∙ sum-integers c.args.a c.args.b (sign c.args.a) (sign c.args.b) k.0 k.1 ∙ sym (numbers-plain c.args.a c.args.b _ (small-numbers c.args.a c.args.b h))

pub returns-then-one_character : goal.returns-then-one_character
unfolding sum
returns-then-one_character c = sym (numbers-character c.args.a c.args.b _ (sym c.one_character.ensures ∙ c.if-one_character.true))

pub returns : goal.returns
unfolding sum
returns c = c.plus.ensures ∙ sym (numbers-plain c.args.a c.args.b _ (sym c.one_character.ensures ∙ c.if-one_character.false))
