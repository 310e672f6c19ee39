use Rattle.storage.proofs.arrays.head.Goals as goal

pub returns : goal.returns
returns c = cc
