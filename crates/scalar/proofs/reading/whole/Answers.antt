use Rattle.std.proofs.Common.{sym, ◌∙◌, arith}
use Rattle.scalar.proofs.Integral.{whole-character, whole-of-float, whole-of-zero, whole-of-integer}
use Rattle.scalar.proofs.reading.whole.Goals as goal

pub returns-then-is_character : goal.returns-then-is_character
returns-then-is_character c = whole-character c.args.w (sym c.is_character.ensures ∙ c.if-is_character.true)

pub returns-then-w-eq1 : goal.returns-then-w-eq1
returns-then-w-eq1 c = let w = c.args.w in c.whole_float.ensures ∙ whole-of-float w c.ranges.w.fits (sym c.is_character.ensures ∙ c.if-is_character.false) (λ z. omega arith)

pub returns-then-m-eq0 : goal.returns-then-m-eq0
returns-then-m-eq0 c = let w = c.args.w in whole-of-zero w c.ranges.w.fits (sym c.is_character.ensures ∙ c.if-is_character.false) (omega (arith, c.if-w-eq1.false)) c.if-m-eq0.true

pub returns : goal.returns
returns c = let w = c.args.w in whole-of-integer w c.ranges.w.fits (sym c.is_character.ensures ∙ c.if-is_character.false) (omega (arith, c.if-w-eq1.false)) c.if-m-eq0.false
