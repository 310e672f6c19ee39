use Rattle.std.proofs.Common.{Bool, sym, ap, ◌∙◌}
use Rattle.scalar.specs.Value.{units}
use Rattle.scalar.specs.Operators.{plus}
use Rattle.scalar.proofs.Operands.{first-float, second-float}
use Rattle.scalar.proofs.Addition.{sum-integers}
use Rattle.scalar.proofs.sums.plus.Goals.{else-a-eq0-via-then-a-eq0+else-b-eq0, else-a-eq0-via-else-a-eq0}
use Rattle.scalar.proofs.sums.plus.Goals as goal

pub returns-then-b-eq0 : goal.returns-then-b-eq0
returns-then-b-eq0 c = let a = c.args in c.integer_sum.ensures ∙ sum-integers a.a a.b a.s a.t c.if-a-eq0.true c.if-b-eq0.true

pub returns : goal.returns
returns c =
    let a = c.args in
    c.float_sum.ensures
    ∙ sym (ap (λ (x : Bool). plus x a.s (units a.a) a.t (units a.b)) (elim c.else-a-eq0.branch [
      | else-a-eq0-via-then-a-eq0+else-b-eq0 w ↦ second-float a.a a.b w.if-a-eq0.true w.if-b-eq0.false
      | else-a-eq0-via-else-a-eq0 w ↦ first-float a.a a.b w.if-a-eq0.false
    ]))
