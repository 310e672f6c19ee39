use Rattle.line_tool.specs.Explain.{last_text}
use Rattle.line_tool.proofs.explain.put_last.Goals as goal

pub returns-in-Nothing : goal.returns-in-Nothing
unfolding last_text
returns-in-Nothing c = simp (c.in-Nothing.is, ← c.put.ensures)

pub returns-in-Status : goal.returns-in-Status
unfolding last_text
returns-in-Status c = simp (c.in-Status.is, ← c.put_status.ensures)

pub returns-in-Trap : goal.returns-in-Trap
unfolding last_text
returns-in-Trap c = simp (c.in-Trap.is, ← c.put_trap.ensures)
