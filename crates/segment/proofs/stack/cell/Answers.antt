use Rattle.segment.proofs.stack.cell.Goals as goal

pub returns : goal.returns
returns c = cc
