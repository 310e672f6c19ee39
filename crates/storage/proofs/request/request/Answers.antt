use Rattle.std.proofs.Common.{sym, ◌∙◌, arith}
use Rattle.storage.proofs.Requests.{full-zero, find-some, request-none, request-some, found_none, found_some}
use Rattle.storage.proofs.request.request.Goals as goal

pub returns-in_err-free-clause-value : goal.returns-in_err-free-clause-value
returns-in_err-free-clause-value c = c.from_residual.ensures ∙ found_none _ _ (full-zero _ (sym c.in_err-free.ensures.value))

pub returns-in_err-free-clause-seg_after : goal.returns-in_err-free-clause-seg_after
returns-in_err-free-clause-seg_after c = sym (request-none _ _ (full-zero _ (sym c.in_err-free.ensures.value)))

pub overflow_cast-size : goal.overflow_cast-size
overflow_cast-size c = omega (arith, (find-some _ _ _ c.in_ok-free.ensures.value).2)

pub give-requires : goal.give-requires
give-requires c = (c.in_ok-free.ensures.bound, (find-some _ _ _ c.in_ok-free.ensures.value).2)

pub returns-clause-value : goal.returns-clause-value
returns-clause-value c = let e = c.in_ok-free.ensures.value in
    let some = find-some _ _ _ e in
    found_some _ _ _ (λ z. some.1 (some.0 ∙ z)) (rw some.0 at c.give.ensures.result_value)

pub returns-clause-seg_after : goal.returns-clause-seg_after
returns-clause-seg_after c =
    let some = find-some _ _ _ c.in_ok-free.ensures.value in
    rw (c.give.ensures.seg_after, some.0) (sym (request-some _ _ (λ z. some.1 (some.0 ∙ z))))
