use mathlib.Core.Path.{◌∙◌}
use native.Mathlib.Omega.{arith}
use lib.ListN.{length-take}
use Rattle.instructions_memory.proofs.Vectors.{kept-length, kept-below, kept-vector}
use borrow.Author.Rules.{rules}
use Rattle.instructions_memory.proofs.loads.constant_vector.Goals as goal

pub slice_bounds-read_words-end-2 : goal.slice_bounds-read_words-end-2
slice_bounds-read_words-end-2 c = simp length-take (omega arith)

pub read_words-requires : goal.read_words-requires
read_words-requires c = simp length-take (omega arith)

pub slice_bounds-push_vector-end-2 : goal.slice_bounds-push_vector-end-2
slice_bounds-push_vector-end-2 c = kept-length _ _ _ _ _ _ c.read_words.ensures (omega arith)

pub push_vector-requires : goal.push_vector-requires
push_vector-requires c = let a = c.args in
    (search rules, kept-below a.count _ _ a.scratch.now _ _ c.read_words.ensures (omega arith) _ (omega arith))

pub returns : goal.returns
returns c = let a = c.args in
    c.push_vector.ensures
    ∙ kept-vector a.count _ _ a.scratch.now _ _ c.read_words.ensures (omega arith) _ _ (omega arith)
