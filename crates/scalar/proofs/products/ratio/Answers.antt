use Rattle.std.proofs.Common.{◌*◌, ◌^◌, ◌∙◌, div-le_self, arith}
use Rattle.scalar.proofs.Division.{exact, inexact}
use Rattle.scalar.proofs.products.ratio.Goals as goal

pub overflow_mul-h : goal.overflow_mul-h
overflow_mul-h c = omega (arith, div-le_self (c.args.g * 2 ^ 40) c.args.d)

pub overflow_mul-h-else-n-d-eq0 : goal.overflow_mul-h-else-n-d-eq0
overflow_mul-h-else-n-d-eq0 c = omega (arith, div-le_self (c.args.g * 2 ^ 40) c.args.d)

pub overflow_add-h : goal.overflow_add-h
overflow_add-h c = omega (arith, div-le_self (c.args.g * 2 ^ 40) c.args.d)

pub returns-then-n-d-eq0 : goal.returns-then-n-d-eq0
returns-then-n-d-eq0 c = c.rounded.ensures ∙ exact c.args.s c.args.g c.args.e c.args.d c.args.f c.requires.4.long c.requires.4.short c.requires.4.small c.if-n-d-eq0.true

pub returns-else-n-d-eq0 : goal.returns-else-n-d-eq0
returns-else-n-d-eq0 c = c.rounded-else-n-d-eq0.ensures ∙ inexact c.args.s c.args.g c.args.e c.args.d c.args.f c.requires.4.long c.requires.4.short c.requires.4.small c.requires.2 c.if-n-d-eq0.false
