use Rattle.std.proofs.lemmas.Result.{err_from_is_err_and}
use mathlib.Core.Path.{◌∙◌}
use Rattle.instructions_memory.proofs.Variables.{variable-trapped, variable-at, variable-sure}
use Rattle.manual.specs.Loads as plan
use Rattle.instructions_memory.proofs.loads.load.Goals as goal

pub returns-in_err-variable : goal.returns-in_err-variable
unfolding plan.load
returns-in_err-variable c = let passed = err_from_is_err_and c.from_residual.result c.from_residual.ensures.1 in
    rw (passed.1, passed.2) (variable-trapped _ _ _ c.in_err-variable.was)

pub returns : goal.returns
returns c = let e = c.in_ok-variable.was in
    c.load_word.ensures _ (variable-sure _ _ _ e c.requires.1)
    ∙ variable-at _ _ _ e (plan.load _ _)
