use Rattle.std.proofs.Common.{◌-◌, arith}
use Rattle.scalar.proofs.Integral.{integral-large, integral-below, integral-between, integral-fraction}
use Rattle.scalar.proofs.reading.whole_float.Goals as goal

pub returns-then-exp-gt150 : goal.returns-then-exp-gt150
returns-then-exp-gt150 c = integral-large c.args.negative c.args.sig c.args.exp c.requires.0 c.requires.1 c.if-exp-gt150.true

pub returns-then-exp-lt128 : goal.returns-then-exp-lt128
returns-then-exp-lt128 c = integral-below c.args.negative c.args.sig c.args.exp c.requires.0 c.requires.1 c.if-exp-lt128.true

pub returns-then-n-k : goal.returns-then-n-k
returns-then-n-k c = integral-between c.args.negative c.args.sig c.args.exp c.requires.0 c.requires.1 (150 - c.args.exp) (omega arith) (omega arith) c.if-n-k.true

pub returns-else-n-k : goal.returns-else-n-k
returns-else-n-k c = integral-fraction c.args.negative c.args.sig c.args.exp c.requires.0 c.requires.1 (150 - c.args.exp) (omega arith) (omega arith) c.if-n-k.false
