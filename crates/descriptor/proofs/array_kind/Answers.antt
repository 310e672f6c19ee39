use Rattle.descriptor.specs.Kinds.{array_kind}
use borrow.Author.Tests.{lt-ltb, le-ltb}
use Rattle.descriptor.proofs.array_kind.Goals as goal

pub returns-then-rest-lt65536 : goal.returns-then-rest-lt65536
unfolding array_kind
returns-then-rest-lt65536 c = simp (lt-ltb _ _ c.if-rest-lt65536.true, ← c.of.ensures)

pub returns : goal.returns
unfolding array_kind
returns c = simp (le-ltb _ _ c.if-rest-lt65536.false)
