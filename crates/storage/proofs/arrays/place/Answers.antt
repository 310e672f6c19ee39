use Rattle.std.proofs.Common.{sym, ◌∙◌}
use Rattle.storage.specs.Arrays.{place_at}
use Rattle.storage.proofs.Placing.{place-full, place_at_lem, place-small}
use Rattle.storage.proofs.arrays.place.Goals as goal

pub returns-in_err-block-clause-value : goal.returns-in_err-block-clause-value
unfolding place_at
returns-in_err-block-clause-value c = c.from_residual.ensures ∙ c.in_err-block.ensures.value

pub returns-in_err-block-clause-seg_after : goal.returns-in_err-block-clause-seg_after
returns-in_err-block-clause-seg_after c = c.in_err-block.ensures.seg_after ∙ place-full _ _ _ (sym c.in_err-block.ensures.value)

pub fill-requires : goal.fill-requires
fill-requires c = let a = c.args in place-small a.seg.now a.shape.now a.elements.now _ (sym c.in_ok-block.ensures.value)

pub returns-clause-value : goal.returns-clause-value
unfolding place_at
returns-clause-value c = c.in_ok-block.ensures.value

pub returns-clause-seg_after : goal.returns-clause-seg_after
returns-clause-seg_after c =
    let e = c.in_ok-block.ensures in
    c.fill.ensures ∙ rw e.seg_after (place_at_lem _ _ _ _ (sym e.value))
