use Rattle.std.proofs.Common.{Bool, sym, ap, ◌∙◌, Ok}
use Rattle.descriptor.specs.Fields.{is_character}
use Rattle.descriptor.specs.Kinds.{bit}
use Rattle.descriptor.proofs.Truth.{neither}
use Rattle.scalar.specs.Operators.{less}
use Rattle.scalar.proofs.Operands.{numbers-character, small-first-plain, small-second-plain}
use Rattle.scalar.proofs.Equality.{less-numbers}
use Rattle.scalar.proofs.Ordering.{below-small, below-floats}
use Rattle.scalar.proofs.comparisons.less.Goals as goal

pub returns-then-both_small : goal.returns-then-both_small
returns-then-both_small c = let small = sym c.both_small.ensures ∙ c.if-both_small.true in
    ap (λ (t : Bool). Ok (bit t)) (c.is_below.ensures ∙ below-small c.args.a c.args.b small)
    ∙ less-numbers c.args.a c.args.b (small-first-plain c.args.a c.args.b small) (small-second-plain c.args.a c.args.b small)

pub returns-then-one_character : goal.returns-then-one_character
unfolding less
returns-then-one_character c = sym (numbers-character c.args.a c.args.b _ (sym c.one_character.ensures ∙ c.if-one_character.true))

pub returns : goal.returns
returns c = let plain = neither (is_character c.args.a) (is_character c.args.b) (sym c.one_character.ensures ∙ c.if-one_character.false) in
    ap (λ (t : Bool). Ok (bit t)) (c.is_below-2.ensures ∙ below-floats c.as_float.ensures c.as_float-2.ensures)
    ∙ less-numbers c.args.a c.args.b plain.0 plain.1
