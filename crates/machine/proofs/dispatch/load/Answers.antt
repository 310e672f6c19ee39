use mathlib.Core.Path.{◌∙◌}
use Rattle.machine.proofs.Dispatching.{variable-seen}
use Rattle.machine.proofs.dispatch.load.Goals as goal

pub returns : goal.returns
returns c = let a = c.args in c.load.ensures ∙ rw (variable-seen a.seg.now a.h a.a c.variables.ensures c.resolve-variable.ensures.value)
