use Rattle.std.proofs.Common.{◌/◌, ◌^◌, arith, eq-eqb, ne_eqb}
use Rattle.scalar.proofs.order.signed.Goals as goal

pub returns-then-w-lt2147483648 : goal.returns-then-w-lt2147483648
returns-then-w-lt2147483648 c = simp (eq-eqb (c.args.w / 2 ^ 31) 0 (omega arith)) (omega arith)

pub returns-else-w-lt2147483648 : goal.returns-else-w-lt2147483648
returns-else-w-lt2147483648 c = simp (ne_eqb (c.args.w / 2 ^ 31) 0 (λ z. omega arith)) (omega (arith, c.wrapping_sub_u32.ensures))
