use Rattle.effects.specs.Perform.{leave_with}
use Rattle.effects_code.proofs.frames.leave_with.Goals as goal

pub returns : goal.returns
unfolding leave_with
returns c = rw (c.put.ensures, c.index.ensures, c.set_frame.ensures, c.saturating_sub.ensures, c.drop_from.ensures, c.share.ensures, c.result_word-w.ensures, c.below-start.ensures, c.last_lbase-last.ensures, c.frame-frame.ensures)
