use Rattle.std.proofs.Common.{Bool, sym, ap, ◌∙◌, Ok}
use Rattle.descriptor.specs.Kinds.{bit}
use Rattle.scalar.proofs.Operands.{small-first-plain, small-second-plain}
use Rattle.scalar.proofs.Equality.{equal-first, equal-second, equal-numbers}
use Rattle.scalar.proofs.Ordering.{equal-small, equal-floats}
use Rattle.scalar.proofs.comparisons.equal.Goals.{then-is_character-2, else-is_character-2}
use Rattle.scalar.proofs.comparisons.equal.Goals as goal

pub returns-then-both_small : goal.returns-then-both_small
returns-then-both_small c = let small = sym c.both_small.ensures ∙ c.if-both_small.true in
    ap (λ (t : Bool). Ok (bit t)) (c.is_level.ensures ∙ equal-small c.args.a c.args.b small)
    ∙ equal-numbers c.args.a c.args.b (small-first-plain c.args.a c.args.b small) (small-second-plain c.args.a c.args.b small)

pub returns-then-is_character : goal.returns-then-is_character
returns-then-is_character c =
    let second = c.is_character-then-is_character.ensures in
    let first = equal-first c.args.a c.args.b (sym c.is_character.ensures ∙ c.if-is_character.true) in
    elim c.if-is_character-2.branch [
      | then-is_character-2 w ↦ rw w.result-is (rw (sym second ∙ w.if-is_character-2.true) at first)
      | else-is_character-2 w ↦ rw (w.result-is, w.if-is_character-2.false) (rw (sym second ∙ w.if-is_character-2.false) at first)
    ]

pub returns-then-is_character-3 : goal.returns-then-is_character-3
returns-then-is_character-3 c = equal-second c.args.a c.args.b (sym c.is_character.ensures ∙ c.if-is_character.false) (sym c.is_character-2.ensures ∙ c.if-is_character-3.true)

pub returns : goal.returns
returns c =
    ap (λ (t : Bool). Ok (bit t)) (c.is_level-2.ensures ∙ equal-floats c.as_float.ensures c.as_float-2.ensures)
    ∙ equal-numbers c.args.a c.args.b (sym c.is_character.ensures ∙ c.if-is_character.false) (sym c.is_character-2.ensures ∙ c.if-is_character-3.false)
