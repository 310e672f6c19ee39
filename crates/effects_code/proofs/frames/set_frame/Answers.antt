use Rattle.effects_code.proofs.frames.set_frame.Goals as goal

pub returns : goal.returns
returns c = rw (c.set_lbase.ensures, c.of-2.ensures, c.set_ltop.ensures, c.of.ensures)
