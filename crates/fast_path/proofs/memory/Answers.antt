use mathlib.Core.Path.{ap, ◌∙◌}
use mathlib.Core.Bool.{true, false}
use Rattle.std.proofs.Common.{Some}
use Rattle.fast_path.proofs.Answers.{left}
use Rattle.fast_path.proofs.Decoding.{memory-by}
use Rattle.fast_path.proofs.memory.Goals as goal

pub returns-in_default : goal.returns-in_default
returns-in_default c = λ f. λ of. left

pub returns-in-Assign : goal.returns-in-Assign
returns-in-Assign c = λ f. λ of. memory-by _ f _ _ true (c.in-Some.is ∙ ap Some c.in-Assign.is) (c.assign.ensures f of)

pub returns-in-AssignNoResult : goal.returns-in-AssignNoResult
returns-in-AssignNoResult c = λ f. λ of. memory-by _ f _ _ false (c.in-Some.is ∙ ap Some c.in-AssignNoResult.is) (c.assign-in-AssignNoResult.ensures f of)

pub returns-in_default-operation : goal.returns-in_default-operation
returns-in_default-operation c = λ f. λ of. left
