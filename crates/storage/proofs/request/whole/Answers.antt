use Rattle.storage.specs.Request.{given_whole}
use Rattle.storage.proofs.request.whole.Goals as goal

pub returns : goal.returns
unfolding given_whole
returns c = rw (c.clear_prev_free.ensures, c.of.ensures, c.number.ensures, c.put.ensures, c.index.ensures, c.unlink.ensures)
