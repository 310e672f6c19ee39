use native.Mathlib.Omega.{arith}
use Rattle.operator.proofs.Once.{start, no_place, repeated, on, all, other_length, sixteen-bytes}
use Rattle.operator.proofs.lent.is_table.Goals as goal

pub returns-then-table-ne16 : goal.returns-then-table-ne16
returns-then-table-ne16 c = other_length _ c.if-table-ne16.true

pub loop-place-init : goal.loop-place-init
loop-place-init c = start _

pub returns-then-place-gt15 : goal.returns-then-place-gt15
returns-then-place-gt15 c = sixteen-bytes _ _ c.if-table-ne16.false (no_place c.loop-place.invariant (omega arith) c.if-place-gt15.true)

pub returns-then-seen-place : goal.returns-then-seen-place
returns-then-seen-place c = sixteen-bytes _ _ c.if-table-ne16.false (repeated c.loop-place.invariant (omega arith) (omega arith) c.if-seen-place.true)

pub loop-place-preserved : goal.loop-place-preserved
loop-place-preserved c = on c.loop-place.invariant (omega arith) (omega arith) c.if-seen-place.false

pub returns : goal.returns
returns c = sixteen-bytes _ _ c.if-table-ne16.false (all c.loop-place.invariant (omega arith))
