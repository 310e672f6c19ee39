use Rattle.instructions_memory.proofs.Stacking.{nothing-done}
use Rattle.instructions_memory.proofs.memory.no_operation.Goals as goal

pub returns : goal.returns
returns c = rw c.jump.ensures (nothing-done _ _)
