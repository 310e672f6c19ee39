use Rattle.std.proofs.lemmas.Result.{err_from_is_err_and}
use native.Mathlib.Omega.{arith}
use mathlib.Core.Path.{◌∙◌}
use Rattle.manual.specs.Memory as plan
use Rattle.instructions_memory.proofs.Variables.{variable-trapped, variable-at, variable-sure}
use borrow.Author.Rules.{rules}
use Rattle.instructions_memory.proofs.memory.assign_indexed.Goals as goal

pub assign_element-requires : goal.assign_element-requires
assign_element-requires c = (search rules, search rules, omega arith, variable-sure _ _ _ c.in_ok-variable.was c.requires.2)

pub returns-in_err-variable : goal.returns-in_err-variable
unfolding plan.assign_indexed
returns-in_err-variable c = let passed = err_from_is_err_and c.from_residual.result c.from_residual.ensures.1 in
    rw (passed.1, passed.2) (variable-trapped _ _ _ c.in_err-variable.was)

pub returns : goal.returns
returns c = c.assign_element.ensures ∙ variable-at _ _ _ c.in_ok-variable.was (plan.assign_indexed _ _ _)
