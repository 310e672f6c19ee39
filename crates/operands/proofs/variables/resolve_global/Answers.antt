use Rattle.std.proofs.Common.{sym, ◌∙◌, inl, inr, arith}
use Rattle.std.proofs.lemmas.Bool.Decides.{nat_tests}
use Rattle.operands.proofs.Resolving.{global-outside, global-inside}
use Rattle.operands.proofs.variables.resolve_global.Goals as goal
use Rattle.operands.proofs.variables.resolve_global.Goals.{then-number-lt8-via-then-number-lt8, then-number-lt8-via-else-number-lt8+then-le}

pub returns-then-number-lt8 : goal.returns-then-number-lt8
returns-then-number-lt8 c = elim c.then-number-lt8.branch [
  | then-number-lt8-via-then-number-lt8 w ↦ global-outside _ _ (inl (omega arith))
  | then-number-lt8-via-else-number-lt8+then-le w ↦ global-outside _ _ (inr (omega arith, grind (arith, nat_tests)))
]

pub returns : goal.returns
returns c = (cc) ∙ sym (global-inside _ _ (omega arith) (grind (arith, nat_tests)))
