use Rattle.std.proofs.Common.{ℕ, cond, eqb, sym, ap, ◌∙◌, arith, Ok}
use Rattle.scalar.specs.Value.{units}
use Rattle.scalar.specs.Operators.{negative}
use Rattle.scalar.proofs.Operands.{number-character, number-plain}
use Rattle.scalar.proofs.signs.negative.Goals as goal

pub returns-then-is_character : goal.returns-then-is_character
unfolding negative
returns-then-is_character c = sym (number-character c.args.a _ (sym c.is_character.ensures ∙ c.if-is_character.true))

pub returns-then-a-eq0 : goal.returns-then-a-eq0
unfolding negative
returns-then-a-eq0 c = let a = c.args.a in c.with_sign.ensures ∙ ap (λ (x : ℕ). Ok (cond (eqb (units a) 0) 0 x)) (omega arith) ∙ sym (number-plain a _ (sym c.is_character.ensures ∙ c.if-is_character.false))

pub returns : goal.returns
unfolding negative
returns c = let a = c.args.a in c.with_sign-2.ensures ∙ ap (λ (x : ℕ). Ok (cond (eqb (units a) 0) 0 x)) (omega (arith, c.if-a-eq0.false)) ∙ sym (number-plain a _ (sym c.is_character.ensures ∙ c.if-is_character.false))
