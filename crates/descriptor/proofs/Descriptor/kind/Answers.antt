use Rattle.descriptor.specs.Kinds.{kind_of, integer_kind}
use borrow.Author.Tests.{lt-ltb, le-ltb, eq-eqb, ne_eqb}
use Rattle.descriptor.proofs.Descriptor.kind.Goals as goal

pub returns-then-w-eq1 : goal.returns-then-w-eq1
unfolding kind_of integer_kind
returns-then-w-eq1 c = simp (eq-eqb _ _ c.if-w-eq1.true)

pub returns-then-rest-gt-INTEGER_LIMIT : goal.returns-then-rest-gt-INTEGER_LIMIT
unfolding kind_of integer_kind
returns-then-rest-gt-INTEGER_LIMIT c = simp (ne_eqb _ _ c.if-w-eq1.false, eq-eqb _ _ c.if-number-eq-TYPE_INTEGER.true, lt-ltb _ _ c.if-rest-gt-INTEGER_LIMIT.true)

pub returns-then-w : goal.returns-then-w
unfolding kind_of integer_kind
returns-then-w c = simp (ne_eqb _ _ c.if-w-eq1.false, eq-eqb _ _ c.if-number-eq-TYPE_INTEGER.true, le-ltb _ _ c.if-rest-gt-INTEGER_LIMIT.false, eq-eqb _ _ c.if-w.true)

pub returns-then-number-eq-TYPE_INTEGER : goal.returns-then-number-eq-TYPE_INTEGER
unfolding kind_of integer_kind
returns-then-number-eq-TYPE_INTEGER c = simp (ne_eqb _ _ c.if-w-eq1.false, eq-eqb _ _ c.if-number-eq-TYPE_INTEGER.true, le-ltb _ _ c.if-rest-gt-INTEGER_LIMIT.false, ne_eqb _ _ c.if-w.false)

pub returns-then-w-eq0 : goal.returns-then-w-eq0
unfolding kind_of integer_kind
returns-then-w-eq0 c = simp (ne_eqb _ _ c.if-w-eq1.false, ne_eqb _ _ c.if-number-eq-TYPE_INTEGER.false, eq-eqb _ _ c.if-w-eq0.true, ← c.unsigned_kind.ensures)

pub returns : goal.returns
unfolding kind_of integer_kind
returns c = simp (ne_eqb _ _ c.if-w-eq1.false, ne_eqb _ _ c.if-number-eq-TYPE_INTEGER.false, ne_eqb _ _ c.if-w-eq0.false)
