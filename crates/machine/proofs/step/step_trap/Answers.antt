use mathlib.Core.Path.{◌∙◌}
use Rattle.machine.proofs.Stepping.{step_set, step_clear}
use Rattle.machine.proofs.step.step_trap.Goals as goal

pub returns-then-step_flag : goal.returns-then-step_flag
returns-then-step_flag c = c.trace_trap.ensures ∙ step_set c.args.seg.now (cc)

pub returns : goal.returns
returns c = step_clear c.args.seg.now (cc)
