use borrow.Author.Tests.{le-leb, lt-leb}
use Rattle.operation_parts.proofs.tests.bottom_function.Goals as goal

pub returns-then-selector-gt1 : goal.returns-then-selector-gt1
returns-then-selector-gt1 c = simp (lt-leb _ _ c.if-selector-gt1.true)

pub returns-then-function-gt2047 : goal.returns-then-function-gt2047
returns-then-function-gt2047 c = simp (le-leb _ _ c.if-selector-gt1.false, lt-leb _ _ c.if-function-gt2047.true)

pub returns : goal.returns
returns c = simp (le-leb _ _ c.if-selector-gt1.false, le-leb _ _ c.if-function-gt2047.false, ← c.find_in.ensures)
