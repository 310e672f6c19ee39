use Prim.Native.Nat.{◌+◌, ◌-◌}
use native.Mathlib.Omega.{arith}
use Rattle.imports.proofs.Writing.{writing-start, writing-last, writing-more, writing-none}
use Rattle.imports.proofs.write.write_number.Goals as goal

pub loop-init : goal.loop-init
loop-init c = writing-start

pub bounds-out-to : goal.bounds-out-to
bounds-out-to c = let l = c.loop.invariant in omega (arith, l.room, l.as_long)

pub overflow_add-result : goal.overflow_add-result
overflow_add-result c = let l = c.loop.invariant in omega (arith, l.room, l.as_long)

pub returns-then-rest-lt128-clause-out_after : goal.returns-then-rest-lt128-clause-out_after
returns-then-rest-lt128-clause-out_after c = (writing-last c.loop.invariant (3 - c.loop.counter) (omega arith) (omega arith)).0

pub returns-then-rest-lt128-clause-value : goal.returns-then-rest-lt128-clause-value
returns-then-rest-lt128-clause-value c = (writing-last c.loop.invariant (3 - c.loop.counter) (omega arith) (omega arith)).1

pub bounds-out-to-in-loop : goal.bounds-out-to-in-loop
bounds-out-to-in-loop c = let l = c.loop.invariant in omega (arith, l.room, l.as_long)

pub overflow_add-to : goal.overflow_add-to
overflow_add-to c = let l = c.loop.invariant in omega (arith, l.room, l.as_long)

pub loop-preserved : goal.loop-preserved
loop-preserved c = writing-more c.loop.invariant (4 - (c.loop.counter + 1)) (omega arith) (omega arith)

pub returns-clause-out_after : goal.returns-clause-out_after
returns-clause-out_after c = (writing-none c.loop.invariant (omega arith)).0

pub returns-clause-value : goal.returns-clause-value
returns-clause-value c = (writing-none c.loop.invariant (omega arith)).1
