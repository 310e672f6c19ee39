use mathlib.Core.Path.{sym}
use borrow.Author.Tests.{ne_eqb}
use Rattle.std.proofs.lemmas.Result.{err_from_is_err_and}
use Rattle.acceptance.proofs.Structure.{table-sound}
use Rattle.operations.specs.Sheet.{sheeted}
use Rattle.operations.proofs.Answers.{nonzero}
use Rattle.engine.proofs.Sheeting.{promised}
use Rattle.engine.proofs.sheet.sheet.Goals as goal

pub returns-in_err-accept : goal.returns-in_err-accept
unfolding sheeted
returns-in_err-accept c =
    let p = err_from_is_err_and c.from_residual.result c.from_residual.ensures.1 in
    let answer = promised _ _ _ _ (simp (← c.in_err-accept.ensures, ne_eqb _ _ (nonzero c.in_err-accept.field-0.0))) in
    rw (p.1, p.2) (record { value = answer.0; promised = answer.1 })

pub add_up-requires : goal.add_up-requires
add_up-requires c = (table-sound _ _ _ (sym c.in_ok-accept.ensures)).longest

pub returns : goal.returns
unfolding sheeted
returns c = let answer = promised _ _ _ _ (simp (← c.in_ok-accept.ensures, ← c.add_up.ensures)) in record { value = answer.0; promised = answer.1 }
