use Rattle.effects.specs.Perform.{write_element}
use Rattle.effects_code.proofs.storing.write_element.Goals as goal

pub returns : goal.returns
unfolding write_element
returns c = rw (c.put.ensures, c.rank.ensures, c.index.ensures, c.of-block.ensures, c.low.ensures, c.word.ensures)
