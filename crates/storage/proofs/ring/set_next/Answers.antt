use Rattle.storage.specs.Ring.{set_next}
use Rattle.storage.proofs.ring.set_next.Goals as goal

pub returns : goal.returns
unfolding set_next
returns c = rw (c.put.ensures, c.halves.ensures, c.number.ensures, c.low-kept.ensures, c.word.ensures, c.index-i.ensures)
