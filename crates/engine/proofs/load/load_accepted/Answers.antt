use mathlib.Core.Path.{sym, ◌∙◌}
use native.Mathlib.Omega.{arith}
use Rattle.engine.proofs.Loading.{one-scalar, no-global, no_value, scalar-stored, full, array-stored}
use Rattle.engine.proofs.load.load_accepted.Goals as goal

pub returns-then-not-is_global : goal.returns-then-not-is_global
returns-then-not-is_global c = λ regular alternate ok. (no-global _ regular alternate _ _ _ ok (sym c.is_global.ensures ∙ c.if-not-is_global.true))

pub returns-then-not-is_value : goal.returns-then-not-is_value
returns-then-not-is_value c = λ regular alternate ok. (no_value _ regular alternate _ _ _ ok (sym c.is_global.ensures ∙ c.if-not-is_global.false) (sym c.is_value.ensures ∙ c.if-not-is_value.true))

pub bounds-ravel-0 : goal.bounds-ravel-0
bounds-ravel-0 c = omega (arith, (one-scalar _ _ (sym c.is_value.ensures ∙ c.if-not-is_value.false) c.if-lengths-eq0.true).0)

pub returns-then-lengths-eq0 : goal.returns-then-lengths-eq0
returns-then-lengths-eq0 c = λ regular alternate ok. (scalar-stored _ regular alternate _ _ _ ok (sym c.is_global.ensures ∙ c.if-not-is_global.false) (sym c.is_value.ensures ∙ c.if-not-is_value.false) _ c.of.ensures _ c.if-lengths-eq0.true (cc))

pub returns-in-Err : goal.returns-in-Err
returns-in-Err c = λ regular alternate ok. (full _ regular alternate _ _ _ ok (sym c.is_global.ensures ∙ c.if-not-is_global.false) (sym c.is_value.ensures ∙ c.if-not-is_value.false) _ c.of.ensures _ c.if-lengths-eq0.false c.store_array.ensures.seg_after _ (sym c.in-Err.is ∙ c.store_array.ensures.value))

pub returns-in-Ok : goal.returns-in-Ok
returns-in-Ok c = λ regular alternate ok. (array-stored _ regular alternate _ _ _ ok (sym c.is_global.ensures ∙ c.if-not-is_global.false) (sym c.is_value.ensures ∙ c.if-not-is_value.false) _ c.of.ensures _ c.if-lengths-eq0.false c.store_array.ensures.seg_after _ (sym c.in-Ok.is ∙ c.store_array.ensures.value))
