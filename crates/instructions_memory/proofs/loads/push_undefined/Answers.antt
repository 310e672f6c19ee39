use mathlib.Core.Path.{◌∙◌}
use Rattle.instructions_memory.proofs.Pushing.{undefined-pushed}
use Rattle.instructions_memory.proofs.loads.push_undefined.Goals as goal

pub returns : goal.returns
returns c = c.push_word.ensures ∙ undefined-pushed _ _
