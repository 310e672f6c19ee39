use Rattle.instructions_memory.proofs.Pushing.{origin-pushed}
use Rattle.instructions_memory.proofs.loads.get_origin.Goals as goal

pub returns : goal.returns
returns c = rw (c.push_word.ensures, c.iorg-origin.ensures) (origin-pushed _ _)
