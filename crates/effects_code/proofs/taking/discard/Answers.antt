use Rattle.effects.specs.Perform.{discard}
use Rattle.effects_code.proofs.taking.discard.Goals as goal

pub returns : goal.returns
unfolding discard
returns c = rw (c.set_ltop.ensures, c.of.ensures, c.drop_from.ensures, c.saturating_sub-left.ensures, c.top.ensures, c.bottom-b.ensures)
