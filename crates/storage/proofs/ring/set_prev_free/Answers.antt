use Rattle.storage.specs.Ring.{set_prev_free}
use Rattle.storage.proofs.ring.set_prev_free.Goals as goal

pub returns : goal.returns
unfolding set_prev_free
returns c = rw (c.put.ensures, c.word-kept.ensures, c.index-i.ensures)
