use Rattle.std.proofs.Common.{◌||◌, rules}
use Rattle.scalar.specs.Operators.{logical_sum}
use Rattle.scalar.proofs.logic.logical_sum.Goals.{then-p, else-p}
use Rattle.scalar.proofs.logic.logical_sum.Goals as goal

pub returns-in_err-p : goal.returns-in_err-p
unfolding logical_sum
returns-in_err-p c = let e = rw (c.in_err-p.was) at (c.truths.ensures ◌||◌) in search (rules, e)

pub returns : goal.returns
unfolding logical_sum
returns c = let e = rw (c.in_ok-p.was) at (c.truths.ensures ◌||◌) in elim c.if-p.branch [
  | then-p w ↦ rw (w.result-is, w.if-p.true) (rw w.if-p.true at e)
  | else-p w ↦ rw w.result-is (rw w.if-p.false at e)
]
