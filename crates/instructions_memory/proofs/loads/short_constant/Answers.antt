use Rattle.manual.specs.Loads.{short_constant}
use Rattle.instructions_memory.proofs.loads.short_constant.Goals as goal

pub returns : goal.returns
unfolding short_constant
returns c = rw (c.push_word.ensures, c.word.ensures, c.integer.ensures)
