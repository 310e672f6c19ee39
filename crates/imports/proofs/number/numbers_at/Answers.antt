use mathlib.Core.Path.{sym, ◌∙◌}
use native.Mathlib.Omega.{arith}
use lib.ListN.{length-set}
use Rattle.imports.proofs.Several.{reading-all, reading-none, reading-above, reading-on}
use Rattle.imports.proofs.number.numbers_at.Goals as goal

pub returns-in_err-n : goal.returns-in_err-n
returns-in_err-n c = rw c.from_residual.ensures (reading-none c.loop-word.invariant.1 (omega arith) (sym c.number_at.ensures ∙ c.in_err-n.was))

pub returns-then-limit-n : goal.returns-then-limit-n
returns-then-limit-n c = reading-above c.loop-word.invariant.1 (omega arith) _ _ (sym c.number_at.ensures ∙ c.in_ok-n.was) c.if-limit-n.true

pub loop-word-preserved : goal.loop-word-preserved
loop-word-preserved c = let l = c.loop-word.invariant in
    (simp length-set l.0, reading-on l.1 (omega arith) _ _ (sym c.number_at.ensures ∙ c.in_ok-n.was) c.if-limit-n.false (omega arith))

pub returns : goal.returns
returns c = reading-all c.loop-word.invariant.1 (omega arith)
