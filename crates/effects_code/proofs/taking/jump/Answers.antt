use Rattle.effects_code.proofs.taking.jump.Goals as goal

pub returns : goal.returns
returns c = rw (c.set_pctr.ensures, c.of.ensures, c.number.ensures)
