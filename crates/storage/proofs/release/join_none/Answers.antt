use Rattle.storage.specs.Release.{join_none}
use Rattle.storage.proofs.release.join_none.Goals as goal

pub returns : goal.returns
unfolding join_none
returns c = rw (c.set_prev_free.ensures, c.mark_free.ensures, c.insert.ensures)
