use Rattle.line_tool.proofs.Putting.{followed}
use Rattle.line_tool.specs.Faults.{shown}
use borrow.Author.Tests.{le-leb, lt-leb}
use Rattle.line_tool.proofs.fault.put_token.Goals as goal

pub returns-then-token-le40 : goal.returns-then-token-le40
unfolding shown
returns-then-token-le40 c = simp (le-leb _ _ c.if-token-le40.true, ← c.put.ensures)

pub returns : goal.returns
unfolding shown
returns c = simp (lt-leb _ _ c.if-token-le40.false)
    (followed _ _ _ _ c.put-cut.ensures c.put-2.ensures)
