use Rattle.segment.proofs.stack.set_cell.Goals as goal

pub returns : goal.returns
returns c = cc
