use Rattle.segment.specs.State.{set_ltop}
use Rattle.effects.specs.Perform.{finish}
use Rattle.effects_code.proofs.taking.finish.Goals as goal

pub returns : goal.returns
unfolding finish set_ltop
returns c = rw (c.put-2.ensures, c.index.ensures, c.put.ensures, c.saturating_sub.ensures, c.number.ensures, c.base-base.ensures)
