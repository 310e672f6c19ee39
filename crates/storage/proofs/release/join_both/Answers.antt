use Rattle.storage.specs.Release.{join_both}
use Rattle.storage.proofs.release.join_both.Goals as goal

pub returns : goal.returns
unfolding join_both
returns c = rw (c.move_rover.ensures, c.mark_free.ensures, c.unlink.ensures, c.size_at-size.ensures)
