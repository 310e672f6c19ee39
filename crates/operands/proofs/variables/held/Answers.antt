use Rattle.operands.proofs.variables.held.Goals as goal

pub returns : goal.returns
returns c = cc
