use mathlib.Core.Path.{◌∙◌}
use native.Mathlib.Omega.{arith}
use Rattle.effects_code.proofs.Copying.{kept-words, kept-count, kept-fits, held_whole, lengths-few, elements-few, alone, copy}
use Rattle.effects_code.proofs.storing.unshare.Goals as goal

pub returns-then-count-lt2 : goal.returns-then-count-lt2
returns-then-count-lt2 c = let answer = alone _ _ _ c.requires.held (omega arith) in record { value = answer.0; seg_after = answer.1 }

pub lengths_of-requires : goal.lengths_of-requires
lengths_of-requires c = held_whole _ _ _ c.requires.held

pub keep-r-requires : goal.keep-r-requires
keep-r-requires c = rw c.lengths_of.ensures (lengths-few _ _ _ c.requires.held)

pub elements_of-requires : goal.elements_of-requires
elements_of-requires c = held_whole _ _ _ c.requires.held

pub keep-m-requires : goal.keep-m-requires
keep-m-requires c = let h = c.requires in rw c.elements_of.ensures (omega (arith, elements-few _ _ _ h.held h.seg_len_bound.0))

pub slice_bounds-lengths-end : goal.slice_bounds-lengths-end
slice_bounds-lengths-end c = kept-fits _ _ _ c.keep-r.ensures.value c.keep-r.ensures.to_after

pub slice_bounds-store_array-end : goal.slice_bounds-store_array-end
slice_bounds-store_array-end c = kept-count _ _ _ c.keep-r.ensures.value c.keep-r.ensures.to_after

pub slice_bounds-store_array-end-2 : goal.slice_bounds-store_array-end-2
slice_bounds-store_array-end-2 c = kept-fits _ _ _ c.keep-m.ensures.value c.keep-m.ensures.to_after

pub slice_bounds-store_array-end-3 : goal.slice_bounds-store_array-end-3
slice_bounds-store_array-end-3 c = kept-count _ _ _ c.keep-m.ensures.value c.keep-m.ensures.to_after

pub returns : goal.returns
returns c = let lengths = kept-words _ _ _ c.keep-r.ensures.value c.keep-r.ensures.to_after ∙ c.lengths_of.ensures in
    let elements = kept-words _ _ _ c.keep-m.ensures.value c.keep-m.ensures.to_after ∙ c.elements_of.ensures in
    let same = copy _ _ _ c.requires.held (omega arith) _ _ lengths elements in record { value = c.store_array.ensures.value ∙ same.0; seg_after = c.store_array.ensures.seg_after ∙ same.1 }
