use Rattle.fast_path.proofs.Answers.{left}
use Rattle.fast_path.proofs.stack_operation.Goals as goal

pub returns-in-Eat1 : goal.returns-in-Eat1
returns-in-Eat1 c = rw c.in-Eat1.is c.eat.ensures

pub returns-in_default : goal.returns-in_default
returns-in_default c = left
