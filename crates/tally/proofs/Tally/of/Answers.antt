use Rattle.tally.proofs.Tally.of.Goals as goal

pub returns : goal.returns
returns c = cc
