use Rattle.machine.proofs.step.return_traced.Goals as goal

pub returns-then-fcnrtrc : goal.returns-then-fcnrtrc
returns-then-fcnrtrc c = simp (← c.fcnrtrc.ensures, c.if-fcnrtrc.true)
