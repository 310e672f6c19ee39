use mathlib.Core.Path.{refl, sym, ◌∙◌}
use mathlib.Core.List.{◌++◌}
use native.Mathlib.Omega.{arith}
use Rattle.segment.specs.Parts.{part_of}
use Rattle.storage_joins.proofs.Joining.{joined-need}
use Rattle.manual.specs.Effects.{made, replaces}
use Rattle.effects_code.proofs.Placing.{long_kept, none_kept, found-done, replace-block, block-below}
use Rattle.effects_code.proofs.taking.replace_by_joined.Goals as goal

pub returns-then-shape-first-gt16384 : goal.returns-then-shape-first-gt16384
returns-then-shape-first-gt16384 c = let a = c.args in let answer = long_kept a.seg.now a.shape.now (part_of a.seg.now a.first ++ part_of a.seg.now a.second) _ refl (omega (arith, joined-need a.seg.now a.shape.now a.first a.second, c.if-shape-first-gt16384.true)) in record { value = answer.0; seg_after = answer.1 }

pub array-requires : goal.array-requires
array-requires c = let a = c.args in block-below a.seg.now c.slice_known-1.given a.shape.now (part_of a.seg.now a.first ++ part_of a.seg.now a.second) c.in-Some.block (sym c.place_joined.ensures.value ∙ c.in-Some.is)

pub returns-in_default : goal.returns-in_default
returns-in_default c = let a = c.args in
    let kept = none_kept a.seg.now a.shape.now (part_of a.seg.now a.first ++ part_of a.seg.now a.second) (replaces a.n (made a.shape.now (part_of a.seg.now a.first ++ part_of a.seg.now a.second))) refl (sym c.place_joined.ensures.value ∙ c.in_default.is) in record { value = kept.0; seg_after = c.place_joined.ensures.seg_after ∙ kept.1 }

pub returns : goal.returns
returns c = let a = c.args in
    let at = sym c.place_joined.ensures.value ∙ c.in-Some.is in
    let done = found-done a.seg.now a.shape.now (part_of a.seg.now a.first ++ part_of a.seg.now a.second) (replaces a.n (made a.shape.now (part_of a.seg.now a.first ++ part_of a.seg.now a.second))) refl c.in-Some.block (omega (arith, joined-need a.seg.now a.shape.now a.first a.second, c.if-shape-first-gt16384.false)) at in record {
      value = done.0;
      seg_after = rw (c.take.ensures, c.word.ensures, c.array.ensures, c.place_joined.ensures.seg_after, c.bottom-b.ensures)
          (replace-block a.seg.now a.shape.now (part_of a.seg.now a.first ++ part_of a.seg.now a.second) c.in-Some.block at a.n ∙ done.1);
    }
