use Rattle.storage.specs.Release.{join_before}
use Rattle.storage.proofs.release.join_before.Goals as goal

pub returns : goal.returns
unfolding join_before
returns c = rw (c.set_prev_free.ensures, c.mark_free.ensures)
