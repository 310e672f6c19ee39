use mathlib.Core.Path.{◌∙◌}
use native.Mathlib.Omega.{arith}
use Rattle.machine.proofs.Stepping.{trap-set}
use Rattle.machine.proofs.step.trap.Goals as goal

pub returns : goal.returns
returns c = let a = c.args in (cc) ∙ trap-set a.seg.now a.t.class a.t.number (omega arith) (omega arith)
