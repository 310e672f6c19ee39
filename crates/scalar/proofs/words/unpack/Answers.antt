use Rattle.std.proofs.Common.{◌%◌, ◌^◌, refl, pos_of_ne-zero, arith}
use Rattle.scalar.proofs.Units.{unpacked-zero, unpacked-float, unpacked-integer, zeros-ge, zeros-lt}
use Rattle.scalar.proofs.words.unpack.Goals as goal

pub returns-then-w-eq1 : goal.returns-then-w-eq1
returns-then-w-eq1 c = unpacked-float c.args.w (λ z. omega arith)

pub returns-then-m-eq0 : goal.returns-then-m-eq0
returns-then-m-eq0 c = unpacked-zero c.args.w (omega (arith, c.if-w-eq1.false)) c.if-m-eq0.true

pub overflow_sub-result : goal.overflow_sub-result
overflow_sub-result c = zeros-ge (c.args.w % 2 ^ 23) (pos_of_ne-zero c.if-m-eq0.false) (omega arith)

pub overflow_shl-result : goal.overflow_shl-result
overflow_shl-result c = omega (arith, zeros-lt (c.args.w % 2 ^ 23) (pos_of_ne-zero c.if-m-eq0.false) (omega arith))

pub overflow_sub-result-2 : goal.overflow_sub-result-2
overflow_sub-result-2 c = omega (arith, zeros-lt (c.args.w % 2 ^ 23) (pos_of_ne-zero c.if-m-eq0.false) (omega arith))

pub returns : goal.returns
returns c = unpacked-integer (c.args.w % 2 ^ 23) (pos_of_ne-zero c.if-m-eq0.false) (omega arith) c.args.w (omega (arith, c.if-w-eq1.false)) refl
