use Rattle.std.proofs.Common.{sym, ◌∙◌, arith}
use Rattle.scalar.proofs.Logical.{truth-character, truth-plain, integer-zero, integer-one, integer-minus, integer-other, float_one, float-other}
use Rattle.scalar.proofs.reading.truth.Goals.{else-m-eq1-via-then-m-eq1+else-w-eq0, else-m-eq1-via-else-m-eq1}
use Rattle.scalar.proofs.reading.truth.Goals as goal

pub returns-then-is_character : goal.returns-then-is_character
returns-then-is_character c = truth-character c.args.w (sym c.is_character.ensures ∙ c.if-is_character.true)

pub returns-then-w-eq1610612736 : goal.returns-then-w-eq1610612736
returns-then-w-eq1610612736 c = let w = c.args.w in float_one w c.if-w-eq1610612736.true ∙ truth-plain w (sym c.is_character.ensures ∙ c.if-is_character.false)

pub returns-then-w-eq1 : goal.returns-then-w-eq1
returns-then-w-eq1 c = let w = c.args.w in float-other w c.ranges.w.fits (λ z. omega arith) c.if-w-eq1610612736.false ∙ truth-plain w (sym c.is_character.ensures ∙ c.if-is_character.false)

pub returns-then-m-eq0 : goal.returns-then-m-eq0
returns-then-m-eq0 c = let w = c.args.w in integer-zero w (omega (arith, c.if-w-eq1.false)) c.if-m-eq0.true ∙ truth-plain w (sym c.is_character.ensures ∙ c.if-is_character.false)

pub returns-then-w-eq0 : goal.returns-then-w-eq0
returns-then-w-eq0 c = let w = c.args.w in integer-one w (omega (arith, c.if-w-eq1.false)) c.if-m-eq1.true c.if-w-eq0.true ∙ truth-plain w (sym c.is_character.ensures ∙ c.if-is_character.false)

pub returns : goal.returns
returns c =
    let w = c.args.w in
    (elim c.else-m-eq1.branch [
      | else-m-eq1-via-then-m-eq1+else-w-eq0 v ↦ integer-minus w (omega (arith, c.if-w-eq1.false)) v.if-m-eq1.true v.if-w-eq0.false
      | else-m-eq1-via-else-m-eq1 v ↦ integer-other w (omega (arith, c.if-w-eq1.false)) c.if-m-eq0.false v.if-m-eq1.false
    ])
    ∙ truth-plain w (sym c.is_character.ensures ∙ c.if-is_character.false)
