use Rattle.machine.proofs.step.finish.Goals as goal

pub returns-then-traced : goal.returns-then-traced
returns-then-traced c = simp (c.if-traced.true, ← c.trace_trap.ensures)

pub returns : goal.returns
returns c = simp (c.if-traced.false, ← c.step_trap.ensures)
