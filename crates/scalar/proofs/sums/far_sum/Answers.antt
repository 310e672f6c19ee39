use Rattle.std.proofs.Common.{◌∙◌, arith}
use Rattle.scalar.proofs.Addition.{far-like, far-unlike}
use Rattle.scalar.proofs.sums.far_sum.Goals as goal

pub returns-then-s-t : goal.returns-then-s-t
returns-then-s-t c = λ m a b. c.rounded.ensures ∙ far-like c.args.s c.args.n c.args.t m c.args.e c.requires.1 a b c.if-s-t.true _ (omega arith)

pub returns-else-s-t : goal.returns-else-s-t
returns-else-s-t c = λ m a b. c.rounded-else-s-t.ensures ∙ far-unlike c.args.s c.args.n c.args.t m c.args.e c.requires.1 a b c.if-s-t.false _ (omega arith)
