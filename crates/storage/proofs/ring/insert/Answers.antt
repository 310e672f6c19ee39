use Rattle.storage.specs.Ring.{insert}
use Rattle.storage.proofs.ring.insert.Goals as goal

pub returns : goal.returns
unfolding insert
returns c = rw (c.hook.ensures, c.halves-links.ensures, c.number-2.ensures, c.number.ensures, c.next_at-next.ensures.result_value, c.dummy-last.ensures.result_value)
