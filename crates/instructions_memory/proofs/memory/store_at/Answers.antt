use Rattle.std.proofs.lemmas.Result.{err_from_is_err_and}
use mathlib.Core.Path.{sym, ◌∙◌}
use mathlib.Core.List.{[], ◌∷◌}
use Rattle.manual.specs.Effects.{stores_element, jumps}
use Rattle.effects_code.proofs.Carrying.{carry-refused, carry-served}
use Rattle.instructions_memory.proofs.memory.store_at.Goals as goal

pub returns-in_err-store_element : goal.returns-in_err-store_element
returns-in_err-store_element c = let a = c.args in
    let passed = err_from_is_err_and c.from_residual.result c.from_residual.ensures.1 in
    rw (passed.1, passed.2, c.store_element.ensures.seg_after) (carry-refused a.seg.now (stores_element a.t a.k a.w a.n) (jumps a.next.0 ∷ []) (sym c.in_err-store_element.was ∙ c.store_element.ensures.value))

pub returns : goal.returns
returns c = let a = c.args in
    rw (c.jump.ensures, c.store_element.ensures.seg_after) (carry-served a.seg.now (stores_element a.t a.k a.w a.n) (jumps a.next.0 ∷ []) (sym c.in_ok-store_element.was ∙ c.store_element.ensures.value))
