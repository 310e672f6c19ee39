-- Every word of a fresh segment, and that the clauses leave none open.
use Prim.Native.Nat.{ℕ, ◌+◌, ◌-◌, ◌*◌, ◌/◌, ◌%◌, ◌^◌, ◌≤◌, ◌<◌}
use mathlib.Core.Path.{◌≡◌, sym, ◌∙◌}
use mathlib.Core.List.{List}
use mathlib.Core.Logic.{◌≢◌}
use native.Mathlib.Omega.{arith}
use lib.ListN.{get_or, length}
use lib.Seq.{ext_get_or}
use Rattle.segment.specs.State.{sbase, ltop, lbase}
use Rattle.segment.specs.Blocks.{dummy}
use Rattle.descriptor.proofs.Truth.{by_le, by-eq}
use Rattle.fresh_segment.specs.LayOut.{Layout, storage_start, base_of, locals_of}
use Rattle.fresh_segment.specs.FreshWords.{FreshWords, FreshSaid}
use Rattle.fresh_segment.proofs.Words.{Room, Laid, laid}
use Rattle.fresh_segment.proofs.Passed.{word_of, passed, laid_out_lem, word_made}
use Rattle.fresh_segment.proofs.Storage.{laid-sbase, laid-ltop, laid-lbase, laid-rover, laid-links}
use Rattle.fresh_segment.proofs.View.{laid-last, laid_code}

-- the words by document 01's names
module _ {t : List ℕ} {n locals word : ℕ} {l : Layout} (h : Room n locals l) (w : Laid t n locals word l) where
  sbase-is : sbase t ≡ base_of l
  sbase-is = laid-sbase h w

  ltop-is : ltop t ≡ locals + 1
  ltop-is = laid-ltop h w

  lbase-is : lbase t ≡ locals
  lbase-is = laid-lbase h w

  dummy-is : dummy t ≡ base_of l - 3
  dummy-is = omega (arith, sbase-is)

  named : FreshWords n locals word l t
  named = record {
    long = w.long;
    sbase = sbase-is;
    ltop = ltop-is;
    lbase = lbase-is;
    rover = laid-rover h w;
    flags = w.zeros 2 (omega arith) (omega arith);
    trap = w.zeros 3 (omega arith) (omega arith);
    blockptr = w.word4;
    unused = λ i k u. w.zeros i (omega arith) u;
    globals = λ i k u. w.globals i k (rw w.word4 at u);
    free_first = rw w.word4 w.first;
    free_next = rw (w.word4, dummy-is) (laid-links h w).0.next;
    free_last = rw (w.word4, dummy-is) (laid-links h w).1.last;
    free_interior = λ i k u. w.interior i (rw w.word4 at k) (omega (arith, u, dummy-is));
    free_end = rw dummy-is w.end;
    dummy_first = rw dummy-is w.dummy;
    dummy_next = rw (w.word4, dummy-is) (laid-links h w).1.next;
    dummy_last = rw (w.word4, dummy-is) (laid-links h w).0.last;
    dummy_end = rw sbase-is w.dummy_end;
    frame_locals = λ i u. rw sbase-is (w.variables (base_of l + i) (omega arith) (omega (arith, u, lbase-is)));
    frame_last = rw lbase-is (laid-last h w);
    frame_function = rw lbase-is (laid_code h w);
    above = λ i k u. rw sbase-is (w.above (base_of l + i) (omega (arith, k, ltop-is)) (omega (arith, u, sbase-is, w.long)));
  }

-- a place that is not one of the two that a range begins with, and one that is not its last
past_two : (i a : ℕ) → a ≤ i → i ≢ a → i ≢ a + 1 → a + 2 ≤ i
past_two i a k d e = omega arith

short-of : (i z : ℕ) → i < z → i ≢ z - 1 → i + 1 < z
short-of i z k d = omega arith

-- the words by their places
whole_word : (w a b : ℕ) → w / 2 ^ 16 ≡ a → w % 2 ^ 16 ≡ b → w ≡ a * 2 ^ 16 + b
whole_word w a b p q = omega arith

module _ {t : List ℕ} {n locals word : ℕ} {l : Layout} (f : FreshWords n locals word l t) where
  dummy-at : dummy t ≡ base_of l - 3
  dummy-at = omega (arith, f.sbase)

  state-zeros : (i : ℕ) → (i ≢ 0) × (i ≢ 1) × (i ≢ 4) → i < 8 → get_or t i 0 ≡ 0
  state-zeros i d u =
      by-eq i 2 (λ e. rw e f.flags)
      (λ a. by-eq i 3 (λ e. rw e f.trap)
      (λ b. f.unused i (past (past_two i 2 (past_two i 0 (omega arith) d.0 d.1) a b) d.2) u))
    where
      past : 4 ≤ i → i ≢ 4 → 5 ≤ i
      past k e = omega (arith, k, e)

  placed : Laid t n locals word l
  placed = record {
    long = f.long;
    word0 = whole_word _ _ _ f.sbase f.ltop;
    word1 = whole_word _ _ _ f.lbase f.rover;
    word4 = f.blockptr;
    zeros = state-zeros;
    globals = λ i k u. f.globals i k (rw f.blockptr u);
    first = rw f.blockptr at f.free_first;
    links = rw (f.blockptr, dummy-at) at (whole_word _ _ _ f.free_next f.free_last);
    interior = λ i k u. f.free_interior i (rw f.blockptr k) (omega (arith, u, dummy-at));
    end = rw dummy-at at f.free_end;
    dummy = rw dummy-at at f.dummy_first;
    dummy_links = rw (f.blockptr, dummy-at) at (whole_word _ _ _ f.dummy_next f.dummy_last);
    dummy_end = rw f.sbase at f.dummy_end;
    variables = λ i k u.
        let e : sbase t + (i - base_of l) ≡ i = omega (arith, f.sbase, k) in
        rw e at (f.frame_locals (i - base_of l) (omega (arith, f.lbase, k, u)));
    last = rw (f.sbase, f.lbase) at f.frame_last;
    code = rw (f.sbase, f.lbase) at f.frame_function;
    above = λ i k u.
        let e : sbase t + (i - base_of l) ≡ i = omega (arith, f.sbase, k) in
        rw e at (f.above (i - base_of l) (omega (arith, f.ltop, k)) (omega (arith, e, u, f.long)));
  }

-- two segments with these words
module _ {t u : List ℕ} {n locals word : ℕ} {l : Layout} (a : Laid t n locals word l) (b : Laid u n locals word l) where
  abbrev Same : ℕ → Type 0
  Same i = get_or t i 0 ≡ get_or u i 0

  same-state : (i : ℕ) → i < 8 → Same i
  same-state i k =
      by-eq i 0 (λ e. rw e (a.word0 ∙ sym b.word0))
      (λ d. by-eq i 1 (λ e. rw e (a.word1 ∙ sym b.word1))
      (λ d₁. by-eq i 4 (λ e. rw e (a.word4 ∙ sym b.word4))
      (λ d₄. a.zeros i (d, d₁, d₄) k ∙ sym (b.zeros i (d, d₁, d₄) k))))

  same-free : (i : ℕ) → storage_start l ≤ i → i < base_of l - 3 → Same i
  same-free i k m =
      by-eq i (storage_start l) (λ e. rw e (a.first ∙ sym b.first))
      (λ d. by-eq i (storage_start l + 1) (λ e. rw e (a.links ∙ sym b.links))
      (λ d₁. by-eq i (base_of l - 3 - 1) (λ e. rw e (a.end ∙ sym b.end))
      (λ d₂.
      let p : storage_start l + 2 ≤ i = past_two i (storage_start l) k d d₁ in
      let q : i + 1 < base_of l - 3 = short-of i (base_of l - 3) m d₂ in
      a.interior i p q ∙ sym (b.interior i p q))))

  same-dummy : (i : ℕ) → base_of l - 3 ≤ i → i < base_of l → Same i
  same-dummy i k m =
      by-eq i (base_of l - 3) (λ e. rw e (a.dummy ∙ sym b.dummy))
      (λ d. by-eq i (base_of l - 3 + 1) (λ e. rw e (a.dummy_links ∙ sym b.dummy_links))
      (λ d₁. let e : i ≡ base_of l - 1 = omega (arith, k, m, d, d₁) in rw e (a.dummy_end ∙ sym b.dummy_end)))

  same-stack : (i : ℕ) → base_of l ≤ i → i < n → Same i
  same-stack i k m =
      by_le (base_of l + locals) i
      (λ o. by-eq i (base_of l + locals) (λ e. rw e (a.last ∙ sym b.last))
      (λ d. by-eq i (base_of l + locals + 1) (λ e. rw e (a.code ∙ sym b.code))
      (λ d₁. let p : base_of l + locals + 2 ≤ i = past_two i (base_of l + locals) o d d₁ in a.above i p m ∙ sym (b.above i p m))))
      (λ o. a.variables i k o ∙ sym (b.variables i k o))

  same : (i : ℕ) → i < length t → Same i
  same i m =
      by_le 8 i
      (λ k. by_le (base_of l) i (λ o. same-stack i o (omega (arith, m, a.long)))
      (λ o. by_le (base_of l - 3) i (λ d. same-dummy i d o)
      (λ d. by_le (storage_start l) i (λ e. same-free i e d)
      (λ e. a.globals i k e ∙ sym (b.globals i k e)))))
      (λ k. same-state i k)

  laid_same : t ≡ u
  laid_same = ext_get_or 0 t u (a.long ∙ sym b.long) same

pub fresh-said : FreshSaid
fresh-said = record {
  said = λ s regular alternate l h.
      let p = passed regular alternate l s h in
      rw (laid_out_lem regular alternate l s h) (named p.room (laid (length s) (locals_of regular alternate l) (word_of l) l p.room));
  second = λ s regular alternate l h. word_made l (passed regular alternate l s h).function.selector;
  determined = λ words locals function l t u f g. laid_same (placed f) (placed g);
}
