use Rattle.machine.proofs.run.here.Goals as goal

pub returns : goal.returns
returns c = (cc)
