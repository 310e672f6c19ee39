use Rattle.line_tool.proofs.Places.{after-bounds}
use Rattle.line_tool.specs.Tokens.{line_end}
use Rattle.line_tool.proofs.tokens.line_end.Goals as goal

pub returns : goal.returns
unfolding line_end
returns c = record { value = simp (← c.after_all.ensures); lower_bound = rw c.after_all.ensures (after-bounds _ _ _) }
