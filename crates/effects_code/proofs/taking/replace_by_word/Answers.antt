use Rattle.effects.specs.Perform.{replace}
use Rattle.effects_code.proofs.taking.replace_by_word.Goals as goal

pub returns : goal.returns
unfolding replace
returns c = rw (c.take.ensures, c.bottom-b.ensures)
