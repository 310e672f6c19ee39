use Rattle.std.proofs.Common.{ℕ, ◌^◌, ◌≤◌, sym, subst, pos_of_ne-zero, arith}
use Rattle.scalar.specs.Value.{one}
use Rattle.scalar.proofs.Rounding.{returned-none, zeros-lt as top-zeros-lt, digits-ge, digits_le, shifted-under, returned, returned-over}
use Rattle.scalar.proofs.results.rounded.Goals as goal

pub returns-then-q-eq0 : goal.returns-then-q-eq0
returns-then-q-eq0 c = returned-none c.args.s c.args.q c.args.e one c.if-q-eq0.true

pub overflow_add-z : goal.overflow_add-z
overflow_add-z c = let z = top-zeros-lt 0 c.args.q 0 (pos_of_ne-zero c.if-q-eq0.false) c.ranges.q.fits in omega arith

pub returns-then-e-z : goal.returns-then-e-z
returns-then-e-z c = sym (shifted-under c.args.s c.args.q c.args.e (pos_of_ne-zero c.if-q-eq0.false) c.ranges.q.fits (omega arith))

pub overflow_shl-q : goal.overflow_shl-q
overflow_shl-q c = top-zeros-lt 0 c.args.q 0 (pos_of_ne-zero c.if-q-eq0.false) c.ranges.q.fits

pub overflow_sub-b : goal.overflow_sub-b
overflow_sub-b c = subst (λ (m : ℕ). 2 ^ 22 ≤ m) (sym c.nearest-m.ensures) (digits-ge 0 c.args.q 0 (pos_of_ne-zero c.if-q-eq0.false) c.ranges.q.fits)

pub overflow_add-b : goal.overflow_add-b
overflow_add-b c = let m = digits_le 0 c.args.q 0 (pos_of_ne-zero c.if-q-eq0.false) c.ranges.q.fits in omega (arith, c.nearest-m.ensures, c.requires)

pub returns-then-b-lt1073741824 : goal.returns-then-b-lt1073741824
returns-then-b-lt1073741824 c = returned c.args.s c.args.q c.args.e (pos_of_ne-zero c.if-q-eq0.false) c.ranges.q.fits c.nearest-m.result c.nearest-m.ensures (omega (arith, c.if-e-z.false)) c.if-b-lt1073741824.true

pub returns-else-b-lt1073741824 : goal.returns-else-b-lt1073741824
returns-else-b-lt1073741824 c = returned-over c.args.s c.args.q c.args.e (pos_of_ne-zero c.if-q-eq0.false) c.ranges.q.fits c.nearest-m.result c.nearest-m.ensures (omega (arith, c.if-e-z.false)) c.if-b-lt1073741824.false
