use Rattle.std.proofs.Common.{sym, ◌∙◌, arith}
use Rattle.scalar.specs.Operators.{quotient}
use Rattle.scalar.proofs.Operands.{numbers-character, numbers-plain}
use Rattle.scalar.proofs.Units.{unpacked-normal}
use Rattle.scalar.proofs.Division.{quotient-zero, quotient-other}
use Rattle.scalar.proofs.products.quotient.Goals as goal

pub returns-then-one_character : goal.returns-then-one_character
unfolding quotient
returns-then-one_character c = sym (numbers-character c.args.a c.args.b _ (sym c.one_character.ensures ∙ c.if-one_character.true))

pub returns-then-q-eq0 : goal.returns-then-q-eq0
unfolding quotient
returns-then-q-eq0 c = quotient-zero c.args.a c.args.b _ _ _ _ c.unpack-p.ensures c.unpack-q.ensures c.if-q-eq0.true ∙ sym (numbers-plain c.args.a c.args.b _ (sym c.one_character.ensures ∙ c.if-one_character.false))

pub ratio-requires : goal.ratio-requires
ratio-requires c = let y = c.unpack-q.ensures in let x = c.unpack-p.ensures in (omega arith, x.short, x.normal, x.small, unpacked-normal y c.if-q-eq0.false)

pub returns : goal.returns
unfolding quotient
returns c = c.ratio.ensures ∙ quotient-other c.args.a c.args.b _ _ _ _ c.unpack-p.ensures c.unpack-q.ensures c.if-q-eq0.false ∙ sym (numbers-plain c.args.a c.args.b _ (sym c.one_character.ensures ∙ c.if-one_character.false))
