use mathlib.Core.List.{[], ◌∷◌}
use mathlib.Core.Path.{sym, ◌∙◌}
use Rattle.std.proofs.lemmas.Result.{err_from_is_err_and}
use Rattle.manual.specs.Effects.{made, replaces, jumps}
use Rattle.effects_code.proofs.Carrying.{carry-refused, carry-served}
use Rattle.instructions_values.proofs.results.replace_by_new.Goals as goal

pub returns-in_err-replace_by_array : goal.returns-in_err-replace_by_array
returns-in_err-replace_by_array c = let a = c.args in
    let passed = err_from_is_err_and c.from_residual.result c.from_residual.ensures.1 in
    rw (passed.1, passed.2, c.replace_by_array.ensures.seg_after) (carry-refused a.seg.now (replaces a.n (made a.lengths.now a.ravel.now)) (jumps a.next.0 ∷ []) (sym c.in_err-replace_by_array.was ∙ c.replace_by_array.ensures.value))

pub returns : goal.returns
returns c = let a = c.args in
    rw (c.jump.ensures, c.replace_by_array.ensures.seg_after) (carry-served a.seg.now (replaces a.n (made a.lengths.now a.ravel.now)) (jumps a.next.0 ∷ []) (sym c.in_ok-replace_by_array.was ∙ c.replace_by_array.ensures.value))
