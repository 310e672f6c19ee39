use borrow.Author.Tests.{le-leb, lt-leb}
use Rattle.operation_parts.proofs.tests.parts_fit.Goals as goal

pub returns-then-globals-gt4088 : goal.returns-then-globals-gt4088
returns-then-globals-gt4088 c = simp (lt-leb _ _ c.if-globals-gt4088.true)

pub returns-then-storage-lt6 : goal.returns-then-storage-lt6
returns-then-storage-lt6 c = simp (le-leb _ _ c.if-globals-gt4088.false, lt-leb _ _ c.if-storage-lt6.true)

pub returns : goal.returns
returns c = simp (le-leb _ _ c.if-globals-gt4088.false, le-leb _ _ c.if-storage-lt6.false)
