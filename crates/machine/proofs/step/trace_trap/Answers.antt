use mathlib.Core.Path.{◌∙◌}
use native.Mathlib.Omega.{arith}
use Rattle.machine.proofs.Stepping.{trace-set}
use Rattle.machine.proofs.step.trace_trap.Goals as goal

pub returns : goal.returns
returns c = let a = c.args in (cc) ∙ trace-set a.seg.now a.trace.class a.trace.number c.requires.0 (omega arith)
