use Rattle.line_tool.specs.Tokens.{shown_of}
use Rattle.line_tool.proofs.tokens.shown.Goals as goal

pub returns-then-is_empty : goal.returns-then-is_empty
unfolding shown_of
returns-then-is_empty c = simp (← c.is_empty.ensures, c.if-is_empty.true, ← c.token_at.ensures)

pub returns : goal.returns
unfolding shown_of
returns c = simp (← c.is_empty.ensures, c.if-is_empty.false)
