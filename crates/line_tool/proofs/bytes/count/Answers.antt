use Rattle.line_tool.specs.Bytes.{byte_count}
use borrow.Author.Tests.{lt-ltb, le-ltb, eq-eqb, ne_eqb}
use Rattle.line_tool.proofs.bytes.count.Goals as goal

pub returns-then-word-eq0 : goal.returns-then-word-eq0
unfolding byte_count
returns-then-word-eq0 c = simp (eq-eqb _ _ c.if-word-eq0.true)

pub returns-then-is_dash : goal.returns-then-is_dash
unfolding byte_count
returns-then-is_dash c = simp (ne_eqb _ _ c.if-word-eq0.false, ← c.is_dash.ensures, c.if-is_dash.true)

pub returns-then-not-is_numeral : goal.returns-then-not-is_numeral
unfolding byte_count
returns-then-not-is_numeral c = simp (ne_eqb _ _ c.if-word-eq0.false, ← c.is_dash.ensures, c.if-is_dash.false, ← c.is_numeral.ensures, c.if-not-is_numeral.true)

pub returns-then-word-eq1 : goal.returns-then-word-eq1
unfolding byte_count
returns-then-word-eq1 c = simp (ne_eqb _ _ c.if-word-eq0.false, ← c.is_dash.ensures, c.if-is_dash.false, ← c.is_numeral.ensures, c.if-not-is_numeral.false, eq-eqb _ _ c.if-word-eq1.true)

pub returns-then-room-word : goal.returns-then-room-word
unfolding byte_count
returns-then-room-word c = simp (ne_eqb _ _ c.if-word-eq0.false, ← c.is_dash.ensures, c.if-is_dash.false, ← c.is_numeral.ensures, c.if-not-is_numeral.false, ne_eqb _ _ c.if-word-eq1.false, lt-ltb _ _ c.if-room-word.true)

pub returns : goal.returns
unfolding byte_count
returns c = simp (ne_eqb _ _ c.if-word-eq0.false, ← c.is_dash.ensures, c.if-is_dash.false, ← c.is_numeral.ensures, c.if-not-is_numeral.false, ne_eqb _ _ c.if-word-eq1.false, le-ltb _ _ c.if-room-word.false)
