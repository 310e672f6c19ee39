use Rattle.machine.proofs.step.call_traced.Goals as goal

pub returns-then-fcnctrc : goal.returns-then-fcnctrc
returns-then-fcnctrc c = simp (← c.fcnctrc.ensures, c.if-fcnctrc.true, ← c.current_header.ensures)
