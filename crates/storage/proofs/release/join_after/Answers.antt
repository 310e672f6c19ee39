use Rattle.storage.specs.Release.{join_after}
use Rattle.storage.proofs.release.join_after.Goals as goal

pub returns : goal.returns
unfolding join_after
returns c = rw (c.move_rover.ensures, c.mark_free.ensures, c.relink.ensures, c.size_at-size.ensures)
