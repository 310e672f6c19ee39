use Rattle.std.proofs.Common.{refl, sym, ◌∙◌, ◌++◌}
use Rattle.segment.specs.Parts.{part_of}
use Rattle.storage.proofs.Requests.{full-zero, find-some}
use Rattle.storage.proofs.Placing.{place_none, place-given}
use Rattle.storage_joins.proofs.Joining.{joined-need}
use Rattle.storage_joins.proofs.place_joined.Goals as goal

pub returns-in_err-f : goal.returns-in_err-f
returns-in_err-f c = let a = c.args in let answer = place_none a.seg.now a.shape.now (part_of a.seg.now a.first ++ part_of a.seg.now a.second) _ _
    (joined-need a.seg.now a.shape.now a.first a.second) refl (full-zero _ (sym c.in_err-f.ensures.value)) in record { value = c.from_residual.ensures ∙ answer.0; seg_after = answer.1 }

pub join-requires : goal.join-requires
join-requires c = (c.in_ok-f.ensures.bound, (find-some _ _ _ c.in_ok-f.ensures.value).2, (cc))

pub returns-then-is_straight : goal.returns-then-is_straight
returns-then-is_straight c = let a = c.args in let some = find-some _ _ _ c.in_ok-f.ensures.value in
    let answer = place-given a.seg.now a.shape.now (part_of a.seg.now a.first ++ part_of a.seg.now a.second) _ _
    (joined-need a.seg.now a.shape.now a.first a.second) some.0 some.1 _ c.join.ensures.result_value c.join.ensures.seg_after in record { value = answer.0; seg_after = answer.1 }
