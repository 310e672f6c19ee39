use mathlib.Core.Path.{sym, ◌∙◌}
use Rattle.line_tool.proofs.Numerals.{decimal-large, decimal-value}
use Rattle.line_tool.specs.Numbers.{decimal_number}
use borrow.Author.Tests.{eq-eqb, ne_eqb}
use Rattle.line_tool.proofs.number.decimal.Goals as goal

pub returns-then-word-eq0 : goal.returns-then-word-eq0
unfolding decimal_number
returns-then-word-eq0 c = simp (eq-eqb _ _ c.if-word-eq0.true)

pub returns-then-not-is_numeral : goal.returns-then-not-is_numeral
unfolding decimal_number
returns-then-not-is_numeral c = simp (ne_eqb _ _ c.if-word-eq0.false, ← c.is_numeral.ensures, c.if-not-is_numeral.true)

pub returns-then-n-gt4294967295 : goal.returns-then-n-gt4294967295
returns-then-n-gt4294967295 c = decimal-large _ c.if-word-eq0.false (sym c.is_numeral.ensures ∙ c.if-not-is_numeral.false) c.capped-n.ensures c.if-n-gt4294967295.true

pub returns : goal.returns
returns c = decimal-value _ c.if-word-eq0.false (sym c.is_numeral.ensures ∙ c.if-not-is_numeral.false) c.capped-n.ensures c.if-n-gt4294967295.false
