use Rattle.line_tool.specs.Tokens.{is_passed_over}
use borrow.Author.Tests.{le-leb, lt-leb}
use Rattle.line_tool.proofs.tokens.is_passed_over.Goals as goal

pub returns-then-line-start : goal.returns-then-line-start
unfolding is_passed_over
returns-then-line-start c = simp (← c.after_all-start.ensures, le-leb _ _ c.if-line-start.true)

pub returns : goal.returns
unfolding is_passed_over
returns c = simp (← c.after_all-start.ensures, lt-leb _ _ c.if-line-start.false)
