use Rattle.effects_code.proofs.frames.last_lbase.Goals as goal

pub returns : goal.returns
returns c = rw (c.low.ensures, c.number.ensures, c.last_lbase.ensures, c.lbase.ensures)
