use Rattle.effects.specs.Perform.{enter}
use Rattle.effects_code.proofs.frames.enter.Goals as goal

pub returns : goal.returns
unfolding enter
returns c = rw (c.set_frame.ensures, c.lay.ensures, c.number-last.ensures, c.lbase.ensures, c.index-start.ensures, c.top_cell.ensures.0, c.top-top.ensures)
