use Rattle.std.proofs.Common.{Err}
use Rattle.std.proofs.lemmas.Result.{err_from_is_err_and}
use Rattle.engine.proofs.Loading.{unaccepted, promised}
use Rattle.engine.proofs.load.load.Goals as goal

pub returns-in_err-accept : goal.returns-in_err-accept
returns-in_err-accept c =
    let p = err_from_is_err_and c.from_residual.result c.from_residual.ensures.1 in
    let answer = promised _ _ _ _ _ _ (Err c.in_err-accept.field-0.0) _ (unaccepted _ _ _ _ _ _ _ c.in_err-accept.ensures) in
    rw (p.1, p.2) (record { value = answer.0; seg_after = answer.1.0; promised = answer.1.1 })

pub returns : goal.returns
returns c = let answer = promised _ _ _ _ _ _ _ _ (c.load_accepted.ensures _ _ c.in_ok-accept.ensures) in record { value = answer.0; seg_after = answer.1.0; promised = answer.1.1 }
