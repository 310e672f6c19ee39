use Rattle.effects_code.specs.Done.{store_shared}
use Rattle.effects_code.proofs.storing.store_share.Goals as goal

pub returns : goal.returns
unfolding store_shared
returns c = rw (c.drop_word.ensures, c.put.ensures, c.share.ensures, c.word-old.ensures, c.place_of-i.ensures)
