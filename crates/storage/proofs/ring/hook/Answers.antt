use Rattle.storage.specs.Ring.{hook}
use Rattle.storage.proofs.ring.hook.Goals as goal

pub returns : goal.returns
unfolding hook
returns c = rw (c.set_last.ensures, c.set_next.ensures, c.put.ensures, c.index.ensures)
