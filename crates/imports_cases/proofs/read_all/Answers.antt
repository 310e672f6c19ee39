use Rattle.std.proofs.Common.{arith}
use Rattle.imports_cases.proofs.read_all.Goals as goal

pub overflow_add-records : goal.overflow_add-records
overflow_add-records c = omega (arith, c.after-place.ensures _ (rw c.in-Some.is at c.record_at.ensures.usable.1))

pub loop-place-smaller : goal.loop-place-smaller
loop-place-smaller c = omega (arith, c.after-place.ensures _ (rw c.in-Some.is at c.record_at.ensures.usable.1))

pub loop-place-preserved : goal.loop-place-preserved
loop-place-preserved c = omega (arith, c.after-place.ensures _ (rw c.in-Some.is at c.record_at.ensures.usable.1))
