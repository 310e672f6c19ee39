use Rattle.line_tool.specs.Explain.{trap_text}
use Rattle.line_tool.proofs.Putting.{followed}
use Rattle.line_tool.proofs.explain.put_trap.Goals as goal

pub returns : goal.returns
unfolding trap_text
returns c =
    followed _ _ _ _
    (followed _ _ _ _
    (followed _ _ _ _ (followed _ _ _ _ (followed _ _ _ _ c.put-a.ensures c.put_decimal-b.ensures) c.put-c.ensures) c.put_decimal-d.ensures)
    c.put-e.ensures)
    (rw c.trap_words.ensures at c.put.ensures)
