use Rattle.descriptor.specs.Kinds.{indirect_kind}
use borrow.Author.Tests.{lt-ltb, le-ltb}
use Rattle.descriptor.proofs.indirect_kind.Goals as goal

pub returns-then-rest-lt65536 : goal.returns-then-rest-lt65536
unfolding indirect_kind
returns-then-rest-lt65536 c = simp (lt-ltb _ _ c.if-rest-lt65536.true, ← c.of.ensures)

pub returns-then-rest-lt131072 : goal.returns-then-rest-lt131072
unfolding indirect_kind
returns-then-rest-lt131072 c = simp (le-ltb _ _ c.if-rest-lt65536.false, lt-ltb _ _ c.if-rest-lt131072.true, ← c.of-then-rest-lt131072.ensures)

pub returns : goal.returns
unfolding indirect_kind
returns c = simp (le-ltb _ _ c.if-rest-lt65536.false, le-ltb _ _ c.if-rest-lt131072.false)
