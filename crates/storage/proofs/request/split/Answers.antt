use Rattle.storage.specs.Request.{split}
use Rattle.storage.proofs.request.split.Goals as goal

pub returns : goal.returns
unfolding split
returns c = rw (c.clear_prev_free.ensures, c.of.ensures, c.put-3.ensures, c.put-2.ensures, c.put.ensures, c.index.ensures, c.number.ensures)
