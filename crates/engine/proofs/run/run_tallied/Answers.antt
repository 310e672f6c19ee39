use mathlib.Core.Path.{sym}
use Rattle.std.proofs.lemmas.Result.{err_from_is_err_and}
use Rattle.effects.specs.declared.Ran.TheVariants.{Done, Trapped}
use Rattle.engine.proofs.Running.{short-enough, sixteen-places, unaccepted, has_ended}
use borrow.Author.Rules.{rules}
use Rattle.engine.proofs.run.run_tallied.Goals as goal

pub returns-in_err-accept_run : goal.returns-in_err-accept_run
returns-in_err-accept_run c =
    let a = c.args in
    let p = err_from_is_err_and c.from_residual.result c.from_residual.ensures.1 in
    let answer = unaccepted _ _ a.budget a.counts.now _ c.in_err-accept_run.ensures in
    rw (p.1, p.2) (record { seg_after = answer.0; promised = answer.1.0; counts_after = answer.1.1 })

pub sixteen-operators-requires : goal.sixteen-operators-requires
sixteen-operators-requires c = sixteen-places _ _ (sym c.in_ok-accept_run.ensures)

pub run-requires : goal.run-requires
run-requires c = let h = short-enough _ _ (sym c.in_ok-accept_run.ensures) in search rules

pub returns-in-Done : goal.returns-in-Done
returns-in-Done c =
    let answered = c.run.ensures in
    let lent = c.sixteen-operators.ensures in
    let answer = has_ended _ _ _ _ c.in_ok-accept_run.ensures _ _ _ c.put.ensures _ (Done c.in-Done.steps) c.in-Done.is (rw lent at answered.seg_after) (rw lent at answered.counts_after) in
    record { seg_after = answer.0; promised = answer.1.0; counts_after = answer.1.1 }

pub returns-in-Trapped : goal.returns-in-Trapped
returns-in-Trapped c =
    let answered = c.run.ensures in
    let lent = c.sixteen-operators.ensures in
    let answer = has_ended _ _ _ _ c.in_ok-accept_run.ensures _ _ _ c.put.ensures _ (Trapped c.in-Trapped.steps) c.in-Trapped.is (rw lent at answered.seg_after) (rw lent at answered.counts_after) in
    record { seg_after = answer.0; promised = answer.1.0; counts_after = answer.1.1 }
