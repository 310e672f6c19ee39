use Rattle.descriptor.specs.Kinds.{character_kind}
use borrow.Author.Tests.{lt-ltb, le-ltb}
use Rattle.descriptor.proofs.character_kind.Goals as goal

pub returns-then-rest-lt256 : goal.returns-then-rest-lt256
unfolding character_kind
returns-then-rest-lt256 c = simp (lt-ltb _ _ c.if-rest-lt256.true)

pub returns : goal.returns
unfolding character_kind
returns c = simp (le-ltb _ _ c.if-rest-lt256.false)
