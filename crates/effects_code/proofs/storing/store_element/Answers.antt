use mathlib.Core.Path.{sym, ◌∙◌}
use Rattle.std.proofs.lemmas.Result.{err_from_is_err_and}
use Rattle.effects_code.proofs.Copying.{element-full, element-done}
use Rattle.effects_code.proofs.storing.store_element.Goals as goal

pub returns-in_err-unshare : goal.returns-in_err-unshare
returns-in_err-unshare c = let a = c.args in
    let passed = err_from_is_err_and c.from_residual.result c.from_residual.ensures.1 in
    let kept = element-full a.seg.now a.t a.at a.w a.n (sym c.in_err-unshare.was ∙ c.unshare.ensures.value) in record { value = rw (passed.1, passed.2) kept.0; seg_after = c.unshare.ensures.seg_after ∙ kept.1 }

pub returns : goal.returns
returns c = let a = c.args in
    let done = element-done a.seg.now a.t a.at a.w a.n (sym c.in_ok-unshare.was ∙ c.unshare.ensures.value) in record { value = done.0; seg_after = rw (c.push_variable.ensures, c.write_element.ensures, c.unshare.ensures.seg_after, c.place_of-i.ensures) done.1 }
