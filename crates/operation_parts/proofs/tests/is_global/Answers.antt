use borrow.Author.Tests.{le-leb, lt-leb}
use Rattle.operations.specs.Load.{is_global}
use Rattle.operation_parts.proofs.tests.is_global.Goals as goal

pub returns-then-global-lt8 : goal.returns-then-global-lt8
unfolding is_global
returns-then-global-lt8 c = simp (lt-leb _ _ c.if-global-lt8.true)

pub returns : goal.returns
unfolding is_global
returns c = simp (le-leb _ _ c.if-global-lt8.false, ← c.blockptr.ensures, ← c.number.ensures)
