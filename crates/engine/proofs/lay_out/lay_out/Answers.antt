use mathlib.Core.Path.{sym, ◌∙◌}
use Rattle.std.proofs.lemmas.Result.{err_from_is_err_and}
use Rattle.std.proofs.Common.{Ok, Err}
use Rattle.fresh_segment.specs.LayOut.{layout}
use Rattle.operations.specs.declared.Refusal.TheVariants.{Parts, Function}
use Rattle.engine.proofs.LayingOut.{segments-refused, absent, has-arguments, too_large, laid, room, promised}
use Rattle.engine.proofs.lay_out.lay_out.Goals as goal

pub returns-in_err-accept_lent : goal.returns-in_err-accept_lent
returns-in_err-accept_lent c =
    let p = err_from_is_err_and c.from_residual.result c.from_residual.ensures.1 in
    let answer = promised _ _ _ _ (Err c.in_err-accept_lent.field-0.0) _ (segments-refused _ _ _ _ _ c.in_err-accept_lent.ensures) in
    rw (p.1, p.2) (record { value = answer.0; seg_after = answer.1.0; promised = answer.1.1 })

pub returns-in_default : goal.returns-in_default
returns-in_default c = let answer = promised _ _ _ _ (Err Function) _ (absent _ _ _ _ c.in_ok-accept_lent.ensures (cc)) in record { value = answer.0; seg_after = answer.1.0; promised = answer.1.1 }

pub returns-then-h-gt0 : goal.returns-then-h-gt0
returns-then-h-gt0 c = let answer = promised _ _ _ _ (Err Function) _ (has-arguments _ _ _ _ c.in_ok-accept_lent.ensures c.in-Some.block c.in-Some.ensures c.if-h-gt0.true) in record { value = answer.0; seg_after = answer.1.0; promised = answer.1.1 }

pub returns-then-not-parts_fit : goal.returns-then-not-parts_fit
returns-then-not-parts_fit c = let answer = promised _ _ _ _ (Err Parts) _ (too_large _ _ _ _ c.in_ok-accept_lent.ensures c.in-Some.block c.in-Some.ensures c.if-h-gt0.false (sym c.if-not-parts_fit.true ∙ c.parts_fit.ensures)) in record { value = answer.0; seg_after = answer.1.0; promised = answer.1.1 }

pub write_fresh-requires : goal.write_fresh-requires
write_fresh-requires c = let a = c.args in let answer = room a.seg.now a.regular.now a.alternate.now (layout a.selector a.function a.globals a.storage)
    c.in_ok-accept_lent.ensures c.in-Some.block c.in-Some.ensures c.if-h-gt0.false (sym c.if-not-parts_fit.false ∙ c.parts_fit.ensures) in record { selector_bound = answer.0; locals_in_bounds = answer.1 }

pub returns : goal.returns
returns c = let answer = promised _ _ _ _ (Ok tt) _ (laid _ _ _ _ c.in_ok-accept_lent.ensures c.in-Some.block c.in-Some.ensures c.if-h-gt0.false (sym c.if-not-parts_fit.false ∙ c.parts_fit.ensures) _ c.write_fresh.ensures) in record { value = answer.0; seg_after = answer.1.0; promised = answer.1.1 }
