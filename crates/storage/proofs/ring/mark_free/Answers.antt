use Rattle.storage.specs.Ring.{mark_free}
use Rattle.storage.proofs.ring.mark_free.Goals as goal

pub returns : goal.returns
unfolding mark_free
returns c = rw (c.put-2.ensures, c.saturating_sub.ensures, c.number.ensures, c.put.ensures, c.index.ensures)
