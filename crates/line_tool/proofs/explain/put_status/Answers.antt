use Rattle.line_tool.specs.Explain.{status_text}
use Rattle.line_tool.proofs.Putting.{followed}
use Rattle.line_tool.proofs.explain.put_status.Goals as goal

pub returns : goal.returns
unfolding status_text
returns c =
    followed _ _ _ _
    (followed _ _ _ _ (followed _ _ _ _ c.put-a.ensures c.put_decimal-b.ensures) c.put-c.ensures)
    (rw c.status_words.ensures at c.put.ensures)
