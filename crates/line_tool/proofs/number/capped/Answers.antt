use borrow.Author.Rules.{rules}
use native.Mathlib.Omega.{arith}
use Rattle.line_tool.proofs.Numerals.{capped-start, capped-on, capped-all, times-low}
use Rattle.line_tool.proofs.number.capped.Goals as goal

pub loop-b-init : goal.loop-b-init
loop-b-init c = capped-start

pub overflow_mul-n : goal.overflow_mul-n
overflow_mul-n c = omega (arith, times-low c.loop-b.n c.args.base c.loop-b.invariant.low (search rules))

pub overflow_add-n : goal.overflow_add-n
overflow_add-n c = omega (arith, times-low c.loop-b.n c.args.base c.loop-b.invariant.low (search rules))

pub loop-b-preserved : goal.loop-b-preserved
loop-b-preserved c = capped-on c.loop-b.invariant (omega arith) (cc)

pub returns : goal.returns
returns c = capped-all c.loop-b.invariant (omega arith)
