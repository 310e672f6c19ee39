use Rattle.scalar.proofs.Units.{sign-none, sign-integer, sign-float}
use Rattle.scalar.proofs.signs.with_sign.Goals.{else-a-eq0-via-then-a-eq0+else-a-eq0-2, else-a-eq0-via-else-a-eq0}
use Rattle.scalar.proofs.signs.with_sign.Goals as goal

pub returns-then-a-eq0-2 : goal.returns-then-a-eq0-2
returns-then-a-eq0-2 c = sign-none c.args.s c.args.a c.if-a-eq0.true c.if-a-eq0-2.true

pub returns : goal.returns
returns c =
    let a = c.args in
    elim c.else-a-eq0.branch [
      | else-a-eq0-via-then-a-eq0+else-a-eq0-2 w ↦ sign-integer a.s a.a w.if-a-eq0.true w.if-a-eq0-2.false
      | else-a-eq0-via-else-a-eq0 w ↦ sign-float a.s a.a w.if-a-eq0.false
    ]
