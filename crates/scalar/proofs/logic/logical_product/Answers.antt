use Rattle.std.proofs.Common.{◌&&◌, rules}
use Rattle.scalar.specs.Operators.{logical_product}
use Rattle.scalar.proofs.logic.logical_product.Goals.{then-p, else-p}
use Rattle.scalar.proofs.logic.logical_product.Goals as goal

pub returns-in_err-p : goal.returns-in_err-p
unfolding logical_product
returns-in_err-p c = let e = rw (c.in_err-p.was) at (c.truths.ensures ◌&&◌) in search (rules, e)

pub returns : goal.returns
unfolding logical_product
returns c = let e = rw (c.in_ok-p.was) at (c.truths.ensures ◌&&◌) in elim c.if-p.branch [
  | then-p w ↦ rw w.result-is (rw w.if-p.true at e)
  | else-p w ↦ rw (w.result-is, w.if-p.false) (rw w.if-p.false at e)
]
