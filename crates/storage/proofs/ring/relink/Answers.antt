use Rattle.storage.specs.Ring.{relink}
use Rattle.storage.proofs.ring.relink.Goals as goal

pub returns : goal.returns
unfolding relink
returns c = rw (c.hook.ensures, c.word-links.ensures, c.index.ensures, c.last_at-last.ensures.result_value, c.next_at-next.ensures.result_value)
