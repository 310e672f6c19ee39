use Rattle.storage.specs.Ring.{set_last}
use Rattle.storage.proofs.ring.set_last.Goals as goal

pub returns : goal.returns
unfolding set_last
returns c = rw (c.put.ensures, c.halves.ensures, c.number.ensures, c.high-kept.ensures, c.word.ensures, c.index-i.ensures)
