use native.Mathlib.Omega.{arith}
use Rattle.operands.proofs.reading.count.Goals as goal

pub overflow_add-number : goal.overflow_add-number
overflow_add-number c = omega (arith, c.type_inv.seg 1)
