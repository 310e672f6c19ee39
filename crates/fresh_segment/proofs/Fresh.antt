-- A fresh segment is accepted, and is seen as all undefined with one frame.
use Prim.Native.Nat.{ℕ, ◌+◌, ◌≤◌, ◌<◌}
use mathlib.Core.Path.{◌≡◌}
use mathlib.Core.List.{List, []}
use mathlib.Core.Logic.{inl, inr}
use native.Mathlib.Omega.{arith}
use lib.ListN.{get_or, length}
use Rattle.segment.specs.State.{sbase, ltop, lbase, blockptr}
use Rattle.segment.specs.Stack.{code_word_at}
use Rattle.storage.specs.Owned.{ArrayIn}
use Rattle.segment.specs.View.{view}
use Rattle.acceptance.specs.Frames.{arguments, variables}
use Rattle.acceptance.specs.Structure.{Bottom, FrameChain, Direct, FrameCells, StackCells, Accepted}
use Rattle.acceptance.proofs.Owners.{owners-name}
use Rattle.fresh_segment.specs.LayOut.{Layout, base_of, locals_of, fresh}
use Rattle.fresh_segment.specs.Fresh.{fresh_view, FreshTheorem}
use Rattle.fresh_segment.proofs.Words.{Laid, laid}
use Rattle.fresh_segment.proofs.Passed.{word_of, Passed, passed, laid_out_lem, word_made, word-known, word-arguments, word-variables}
use Rattle.fresh_segment.proofs.Storage.{laid-sbase, laid-ltop, laid-lbase, laid-head, blocks_of, ring_of, laid-heap}
use Rattle.fresh_segment.proofs.View.{laid-last, laid_code, laid-view}

module _ (s regular alternate : List ℕ) (l : Layout) (h : Passed s regular alternate l) where
  abbrev locals : ℕ
  locals = locals_of regular alternate l

  abbrev word : ℕ
  word = word_of l

  abbrev after : List ℕ
  after = fresh (length s) locals word l

  words : Laid after (length s) locals word l
  words = laid (length s) locals word l h.room

  sbase-is : sbase after ≡ base_of l
  sbase-is = laid-sbase h.room words

  ltop-is : ltop after ≡ locals + 1
  ltop-is = laid-ltop h.room words

  lbase-is : lbase after ≡ locals
  lbase-is = laid-lbase h.room words

  code_is : code_word_at after locals ≡ word
  code_is = laid_code h.room words

  bottom : Bottom after regular alternate locals
  bottom = record {
    function = rw code_is (word-known h.function);
    itself = laid-last h.room words;
    start = rw code_is (word-variables h.function);
  }

  module _ (A : ℕ → Type 0) where
    fresh-globals : (i : ℕ) → 8 ≤ i → i < blockptr after → Direct A (get_or after i 0)
    fresh-globals i k u = inr (inl (words.globals i k (rw words.word4 at u)))

    fresh_cells : FrameCells A after regular alternate locals (locals + 2) []
    fresh_cells =
        let none : arguments regular alternate (code_word_at after locals) ≡ 0 = rw code_is (word-arguments h.function) in
        let all : variables regular alternate (code_word_at after locals) ≡ locals = bottom.start in
        record {
          temporaries = λ i k u. absurd (omega arith);
          arguments = λ i k u. absurd (omega (arith, none, all));
          locals = λ i k u. rw sbase-is (inr (inl (words.variables (base_of l + i) (omega arith) (omega arith))));
        }

  abbrev Arrays : ℕ → Type 0
  Arrays a = (size : ℕ) × ArrayIn (blockptr after) (blocks_of l) a size

  chain : FrameChain after regular alternate (lbase after) []
  chain = rw lbase-is bottom

  cells : StackCells Arrays after regular alternate (lbase after) (ltop after + 1) []
  cells = let e : ltop after + 1 ≡ locals + 2 = omega (arith, ltop-is) in rw (lbase-is, e) (fresh_cells Arrays)

  accepted : Accepted after regular alternate
  accepted = record {
    shortest = rw words.long h.shortest;
    longest = rw words.long h.room.longest;
    procedures = h.procedures;
    head = laid-head h.room words;
    owned = record {
      blocks = blocks_of l;
      ring = ring_of l;
      heap = laid-heap h.room words;
      named = λ x small k. owners-name Arrays after regular alternate x small [] chain cells (fresh-globals Arrays) k;
      counts = λ x size k. absurd k;
      inside = λ x size k. absurd k;
    };
    top = omega (arith, lbase-is, ltop-is);
    older = [];
    chain = chain;
    globals = fresh-globals Arrays;
    cells = cells;
  }

  seen : view after ≡ fresh_view locals l
  seen =
      let w = word_made l h.function.selector in
      laid-view h.room words (omega (arith, w)) (omega (arith, w))

pub fresh-theorem : FreshTheorem
fresh-theorem = record {
  accepted = λ s regular alternate l h. rw (laid_out_lem regular alternate l s h) (accepted s regular alternate l (passed regular alternate l s h));
  seen = λ s regular alternate l h. rw (laid_out_lem regular alternate l s h) (seen s regular alternate l (passed regular alternate l s h));
}
