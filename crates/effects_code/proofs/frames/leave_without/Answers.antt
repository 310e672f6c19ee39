use Rattle.effects.specs.Perform.{leave_without}
use Rattle.effects_code.proofs.frames.leave_without.Goals as goal

pub returns : goal.returns
unfolding leave_without
returns c = rw (c.set_frame.ensures, c.saturating_sub-2.ensures, c.saturating_sub.ensures, c.drop_from.ensures, c.below-lowest.ensures, c.last_lbase-last.ensures, c.frame-frame.ensures)
