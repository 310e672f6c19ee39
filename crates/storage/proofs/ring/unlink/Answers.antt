use Rattle.storage.specs.Ring.{unlink}
use Rattle.storage.proofs.ring.unlink.Goals as goal

pub returns : goal.returns
unfolding unlink
returns c = rw (c.set_last.ensures, c.set_next.ensures, c.last_at-last.ensures.result_value, c.next_at-next.ensures.result_value)
