use Rattle.line_tool.specs.Tokens.{token_at}
use Rattle.line_tool.proofs.tokens.token_at.Goals as goal

pub returns : goal.returns
unfolding token_at
returns c = simp (← c.after_all-start.ensures, ← c.after_all-end.ensures)
