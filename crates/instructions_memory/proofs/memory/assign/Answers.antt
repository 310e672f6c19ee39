use Rattle.std.proofs.lemmas.Result.{err_from_is_err_and}
use mathlib.Core.Path.{◌∙◌}
use Rattle.manual.specs.Memory as plan
use Rattle.instructions_memory.proofs.Variables.{variable-trapped, variable-at}
use Rattle.instructions_memory.proofs.memory.assign.Goals as goal

pub returns-in_err-variable : goal.returns-in_err-variable
unfolding plan.assign
returns-in_err-variable c = let passed = err_from_is_err_and c.from_residual.result c.from_residual.ensures.1 in
    rw (passed.1, passed.2) (variable-trapped _ _ _ c.in_err-variable.was)

pub returns : goal.returns
returns c = c.assign_to.ensures _ ∙ variable-at _ _ _ c.in_ok-variable.was (plan.assign _ _)
