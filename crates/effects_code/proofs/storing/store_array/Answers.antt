use mathlib.Core.Path.{refl, sym, ◌∙◌}
use native.Mathlib.Omega.{arith}
use Rattle.manual.specs.Effects.{made, stores}
use Rattle.effects_code.proofs.Placing.{long_kept, none_kept, found-done, store-block, block-below}
use Rattle.effects_code.proofs.storing.store_array.Goals as goal

pub returns-then-shape-ravel-gt16384 : goal.returns-then-shape-ravel-gt16384
returns-then-shape-ravel-gt16384 c = let a = c.args in let answer = long_kept a.seg.now a.shape.now a.ravel.now _ refl (omega arith) in record { value = answer.0; seg_after = answer.1 }

pub array-requires : goal.array-requires
array-requires c = let a = c.args in block-below a.seg.now c.slice_known-1.given a.shape.now a.ravel.now c.in-Some.block (sym c.place.ensures.value ∙ c.in-Some.is)

pub returns-in_default : goal.returns-in_default
returns-in_default c = let a = c.args in
    let kept = none_kept a.seg.now a.shape.now a.ravel.now (stores a.t (made a.shape.now a.ravel.now)) refl (sym c.place.ensures.value ∙ c.in_default.is) in record { value = kept.0; seg_after = c.place.ensures.seg_after ∙ kept.1 }

pub returns : goal.returns
returns c = let a = c.args in
    let at = sym c.place.ensures.value ∙ c.in-Some.is in
    let done = found-done a.seg.now a.shape.now a.ravel.now (stores a.t (made a.shape.now a.ravel.now)) refl c.in-Some.block (omega arith) at in record {
      value = done.0;
      seg_after = rw (c.drop_word.ensures, c.put.ensures, c.word.ensures, c.array.ensures, c.place.ensures.seg_after, c.word-old.ensures, c.place_of-i.ensures)
          (store-block a.seg.now a.shape.now a.ravel.now c.in-Some.block at a.t ∙ done.1);
    }
