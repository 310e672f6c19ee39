use Rattle.machine.proofs.step.settle.Goals as goal

pub returns-in-Finished : goal.returns-in-Finished
returns-in-Finished c = simp c.in-Finished.is (cc)

pub returns-in-Entered : goal.returns-in-Entered
returns-in-Entered c = simp (c.in-Entered.is, ← c.call_traced-traced.ensures) (cc)

pub returns-in-Left : goal.returns-in-Left
returns-in-Left c = simp (c.in-Left.is, ← c.return_traced-traced.ensures) (cc)
