use Rattle.std.proofs.Common.{ℕ, ◌+◌, ◌-◌, ◌/◌, ◌^◌, ap, ◌∙◌, pos_of_ne-zero, arith, pow_pos, pow_mono}
use Rattle.scalar.proofs.Ones.{whole-none, whole_below, whole-down, whole-up, one_shifted}
use Rattle.scalar.proofs.wholes.ones.Goals as goal

pub returns-then-sig-eq0 : goal.returns-then-sig-eq0
returns-then-sig-eq0 c = whole-none c.args.up c.args.sig c.args.exp c.if-sig-eq0.true c.requires.2

pub returns-then-exp-lt128 : goal.returns-then-exp-lt128
returns-then-exp-lt128 c = whole_below c.args.up c.args.sig c.args.exp (pos_of_ne-zero c.if-sig-eq0.false) c.requires.0 c.if-exp-lt128.true c.requires.2

pub overflow_sub-result : goal.overflow_sub-result
overflow_sub-result c = let k : ℕ = 150 - c.args.exp in let e = one_shifted k (omega arith) in omega (arith, pow_pos k)

pub overflow_add-result : goal.overflow_add-result
overflow_add-result c = let k : ℕ = 150 - c.args.exp in let e = one_shifted k (omega arith) in omega (arith, pow_mono {i = k} {j = 23} (omega arith))

pub returns-then-up-eq0 : goal.returns-then-up-eq0
returns-then-up-eq0 c = whole-down c.args.up c.args.sig c.args.exp (150 - c.args.exp) (omega arith) c.if-up-eq0.true

pub returns-else-up-eq0 : goal.returns-else-up-eq0
returns-else-up-eq0 c = let k : ℕ = 150 - c.args.exp in ap (λ (x : ℕ). (c.args.sig + (x - 1)) / 2 ^ k) (one_shifted k (omega arith)) ∙ whole-up c.args.up c.args.sig c.args.exp k (omega arith) c.if-up-eq0.false
