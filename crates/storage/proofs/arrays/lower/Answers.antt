use Rattle.std.proofs.Common.{sym, ◌∙◌, arith}
use Rattle.storage.proofs.Counts.{lower_last, lower-further}
use Rattle.storage.proofs.arrays.lower.Goals as goal

pub returns-then-w-eq1 : goal.returns-then-w-eq1
returns-then-w-eq1 c = (cc) ∙ sym (lower_last _ _ (cc))

pub returns-else-w-eq1 : goal.returns-else-w-eq1
returns-else-w-eq1 c = (cc) ∙ sym (lower-further _ _ (omega arith))
