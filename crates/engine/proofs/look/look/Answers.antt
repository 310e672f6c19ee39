use borrow.Author.Tests.{ne_eqb}
use Rattle.std.proofs.lemmas.Result.{err_from_is_err_and}
use Rattle.operations.specs.Look.{looked}
use Rattle.operations.proofs.Answers.{nonzero}
use Rattle.engine.proofs.Looking.{promised}
use Rattle.engine.proofs.look.look.Goals as goal

pub returns-in_err-accept : goal.returns-in_err-accept
unfolding looked
returns-in_err-accept c =
    let p = err_from_is_err_and c.from_residual.result c.from_residual.ensures.1 in
    let answer = promised _ _ _ _ _ (simp (← c.in_err-accept.ensures, ne_eqb _ _ (nonzero c.in_err-accept.field-0.0))) in
    rw (p.1, p.2) (record { value = answer.0; promised = answer.1 })

pub returns-then-not-is_global : goal.returns-then-not-is_global
unfolding looked
returns-then-not-is_global c = let answer = promised _ _ _ _ _ (simp (← c.in_ok-accept.ensures, ← c.is_global.ensures, c.if-not-is_global.true)) in record { value = answer.0; promised = answer.1 }

pub returns : goal.returns
unfolding looked
returns c = let answer = promised _ _ _ _ _ (simp (← c.in_ok-accept.ensures, ← c.is_global.ensures, c.if-not-is_global.false, ← c.word.ensures, ← c.seen_as.ensures)) in record { value = answer.0; promised = answer.1 }
