use Rattle.std.proofs.Common.{arith}
use Rattle.scalar.proofs.Rounding.{integer-none, integer-fits, integer-over}
use Rattle.scalar.proofs.results.integer.Goals as goal

pub returns-then-n-eq0 : goal.returns-then-n-eq0
returns-then-n-eq0 c = integer-none c.args.s c.args.n c.if-n-eq0.true

pub returns-then-n : goal.returns-then-n
returns-then-n c = integer-fits c.args.s c.args.n c.if-n-eq0.false (omega (arith, c.if-n.true))

pub returns-else-n : goal.returns-else-n
returns-else-n c = integer-over c.args.s c.args.n (omega (arith, c.if-n.false))
