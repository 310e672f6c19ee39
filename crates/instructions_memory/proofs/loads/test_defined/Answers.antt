use Rattle.std.proofs.lemmas.Result.{err_from_is_err_and}
use Rattle.instructions_memory.proofs.Variables.{variable-trapped}
use Rattle.manual.specs.Loads as plan
use Rattle.instructions_memory.proofs.Pushing.{tested}
use Rattle.instructions_memory.proofs.loads.test_defined.Goals as goal

pub returns-in_err-variable : goal.returns-in_err-variable
unfolding plan.test_defined
returns-in_err-variable c = let passed = err_from_is_err_and c.from_residual.result c.from_residual.ensures.1 in
    rw (passed.1, passed.2) (variable-trapped _ _ _ c.in_err-variable.was)

pub returns : goal.returns
returns c = rw (c.push_word.ensures, c.defined.ensures) (tested _ _ _ _ c.in_ok-variable.was)
