use mathlib.Core.Path.{sym, ap, ◌∙◌}
use native.Mathlib.Omega.{arith}
use lib.ListN.{length}
use lib.Seq.{length-take-le}
use Rattle.std.proofs.lemmas.Result.{err_from_is_err_and}
use Rattle.instructions_memory.proofs.Storing.{block-whole, block_held, few-elements, other-rank, outside, element-found}
use borrow.Author.Rules.{rules}
use Rattle.instructions_memory.proofs.memory.element_in.Goals as goal

pub lengths_of-lengths-requires : goal.lengths_of-lengths-requires
lengths_of-lengths-requires c = block-whole _ _ _ _ _ c.requires.indexed

pub returns-then-r-lengths : goal.returns-then-r-lengths
returns-then-r-lengths c = other-rank _ _ _ _ _ c.requires.indexed _ (λ same. c.if-r-lengths.true (same ∙ sym (ap length c.lengths_of-lengths.ensures)))

pub slice_bounds-place-end : goal.slice_bounds-place-end
slice_bounds-place-end c = sym (length-take-le _ _ (omega arith))

pub place-requires : goal.place-requires
place-requires c = (length-take-le _ _ (omega arith) ∙ c.if-r-lengths.false, rw c.lengths_of-lengths.ensures (few-elements _ _ _ _ _ c.requires.indexed))

pub store_at-requires : goal.store_at-requires
store_at-requires c = record { held = block_held _ _ _ _ _ c.requires.indexed; n_nonzero = search rules }

pub returns-in_err-k : goal.returns-in_err-k
returns-in_err-k c = let p = err_from_is_err_and c.from_residual.result c.from_residual.ensures.1 in
    rw (p.1, p.2) (outside _ _ _ _ _ c.requires.indexed _ (c.if-r-lengths.false ∙ ap length c.lengths_of-lengths.ensures) _ _ c.in_err-k.was (c.place.ensures ∙ rw (c.iorg.ensures, c.lengths_of-lengths.ensures)))

pub returns : goal.returns
returns c = c.store_at.ensures ∙ element-found _ _ _ _ _ c.requires.indexed _ (c.if-r-lengths.false ∙ ap length c.lengths_of-lengths.ensures) _ _ c.in_ok-k.was (c.place.ensures ∙ rw (c.iorg.ensures, c.lengths_of-lengths.ensures))
