use Rattle.effects_code.specs.Done.{replace_shared}
use Rattle.effects_code.proofs.taking.replace_by_share.Goals as goal

pub returns : goal.returns
unfolding replace_shared
returns c = rw (c.take.ensures, c.share.ensures, c.bottom-b.ensures)
