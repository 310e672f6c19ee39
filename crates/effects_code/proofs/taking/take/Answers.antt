use Rattle.effects_code.proofs.taking.take.Goals as goal

pub returns : goal.returns
returns c = rw (c.finish.ensures, c.drop_from.ensures)
