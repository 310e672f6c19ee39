use Rattle.std.proofs.Common.{arith}
use Rattle.scalar.proofs.Units.{unpacked-normal}
use Rattle.scalar.proofs.Ordering.{float-itself, float_zero, float-made}
use Rattle.scalar.proofs.order.as_float.Goals as goal

pub returns-then-w-eq1 : goal.returns-then-w-eq1
returns-then-w-eq1 c = float-itself c.args.w c.if-w-eq1.true

pub returns-then-p-eq0 : goal.returns-then-p-eq0
returns-then-p-eq0 c = float_zero c.unpack-p.ensures c.if-p-eq0.true

pub overflow_sub-result : goal.overflow_sub-result
overflow_sub-result c = (unpacked-normal c.unpack-p.ensures c.if-p-eq0.false).long

pub returns : goal.returns
returns c = let u = c.unpack-p.ensures in
    float-made (omega arith) u (unpacked-normal u c.if-p-eq0.false)
