use Rattle.storage.specs.Ring.{clear_prev_free}
use Rattle.storage.proofs.ring.clear_prev_free.Goals as goal

pub returns : goal.returns
unfolding clear_prev_free
returns c = rw (c.put.ensures, c.word-kept.ensures, c.index-i.ensures)
