use native.Mathlib.Omega.{arith}
use mathlib.Core.Path.{sym, ◌∙◌}
use Rattle.line_tool.proofs.Numerals.{hex-value, hex-fits}
use Rattle.line_tool.specs.Numbers.{hex_number}
use borrow.Author.Tests.{lt-ltb, eq-eqb, ne_eqb}
use Rattle.line_tool.proofs.number.hex.Goals as goal

pub returns-then-word-eq0 : goal.returns-then-word-eq0
unfolding hex_number
returns-then-word-eq0 c = simp (eq-eqb _ _ c.if-word-eq0.true)

pub returns-then-not-is_numeral : goal.returns-then-not-is_numeral
unfolding hex_number
returns-then-not-is_numeral c = simp (ne_eqb _ _ c.if-word-eq0.false, ← c.is_numeral.ensures, c.if-not-is_numeral.true)

pub returns-then-word-gt8 : goal.returns-then-word-gt8
unfolding hex_number
returns-then-word-gt8 c = simp (ne_eqb _ _ c.if-word-eq0.false, ← c.is_numeral.ensures, c.if-not-is_numeral.false, lt-ltb _ _ c.if-word-gt8.true)

pub overflow_cast-result : goal.overflow_cast-result
overflow_cast-result c = omega (arith, hex-fits c.args.word.now (sym c.is_numeral.ensures ∙ c.if-not-is_numeral.false) c.if-word-gt8.false c.capped.ensures)

pub returns : goal.returns
returns c = hex-value _ c.if-word-eq0.false (sym c.is_numeral.ensures ∙ c.if-not-is_numeral.false) c.if-word-gt8.false c.capped.ensures
