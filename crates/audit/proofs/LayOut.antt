-- A lay out does what `Did` says, and leaves words of 32 bits.
use Prim.Native.Nat.{ℕ, ◌+◌, ◌-◌, ◌*◌, ◌^◌, ◌<◌}
use mathlib.Core.Path.{◌≡◌, sym, ◌∙◌, subst}
use mathlib.Core.Logic.{◌≢◌}
use mathlib.Core.List.{List}
use native.Mathlib.Omega.{arith}
use lib.ListN.{length, set, replicate}
use lib.Seq.{sets}
use borrow.Author.Tests.{eq-eqb, ne_eqb}
use Rattle.acceptance_storage.proofs.Tests.{by-eq}
use Rattle.descriptor.specs.Fields.{undefined_word}
use Rattle.segment.specs.Lent.{Words}
use Rattle.segment.proofs.Words.{words-set, words-sets}
use Rattle.plan_theorems.proofs.Lists.{all_replicate, words-all}
use Rattle.fresh_segment.specs.LayOut.{Layout, storage_start, base_of, locals_of, fresh_head, fresh_storage, fresh_frame, fresh, lay_out_refusal, laid_out}
use Rattle.fresh_segment.proofs.Words.{Room}
use Rattle.fresh_segment.proofs.Passed.{word_of, passed, laid_out_lem, word_made}
use Rattle.fresh_segment.proofs.Fresh.{fresh-theorem}
use Rattle.fresh_segment.proofs.FreshWords.{fresh-said}
use Rattle.operations.specs.Answers as operations
use Rattle.audit.specs.Calls.{Procedures, answer_of, lay_out}
use Rattle.audit.specs.Did.{LaidOut, Did, is_refused, is_laid_out}
use Rattle.audit.proofs.Tests.{lay-out-told}
use Rattle.audit.proofs.Accepts.{passes_of}

-- ---- the words of a fresh segment

words-run : (n w : ℕ) → w < 2 ^ 32 → Words (replicate n w)
words-run n w h = words-all (replicate n w) (all_replicate (λ (v : ℕ). v < 2 ^ 32) n w h)

module _ (s : List ℕ) (h : Words s) where
  head-words : (start base locals : ℕ) → start < 2 ^ 16 → base < 2 ^ 16 → locals + 1 < 2 ^ 16 → Words (fresh_head s start base locals)
  unfolding fresh_head
  head-words start base locals k b l =
      let w0 = base * 2 ^ 16 + (locals + 1) in
      let w1 = locals * 2 ^ 16 + start in
      let h0 : Words (set s 0 w0) = words-set s h 0 w0 (omega arith) in
      let h1 : Words (set (set s 0 w0) 1 w1) = words-set (set s 0 w0) h0 1 w1 (omega arith) in
      words-set (set (set s 0 w0) 1 w1) h1 4 start (omega arith)

  storage-words : (start n : ℕ) → start + n < 2 ^ 16 → Words (fresh_storage s start n)
  unfolding fresh_storage
  storage-words start n k =
      let dummy = start + n - 3 in
      let s0 = set s start (2 ^ 31 + (n - 3)) in
      let s1 = set s0 (start + 1) (dummy * 2 ^ 16 + dummy) in
      let s2 = set s1 (dummy - 1) (n - 3) in
      let s3 = set s2 dummy (2 ^ 30) in
      let h0 : Words s0 = words-set s h start (2 ^ 31 + (n - 3)) (omega arith) in
      let h1 : Words s1 = words-set s0 h0 (start + 1) (dummy * 2 ^ 16 + dummy) (omega arith) in
      let h2 : Words s2 = words-set s1 h1 (dummy - 1) (n - 3) (omega arith) in
      let h3 : Words s3 = words-set s2 h2 dummy (2 ^ 30) (omega arith) in
      words-set s3 h3 (dummy + 1) (start * 2 ^ 16 + start) (omega arith)

  frame-words : (base locals word : ℕ) → locals < 2 ^ 16 → word < 2 ^ 32 → Words (fresh_frame s base locals word)
  unfolding fresh_frame
  frame-words base locals word l w =
      let s0 = sets s base (replicate locals undefined_word) in
      let h0 : Words s0 = words-sets s h base (replicate locals undefined_word) (words-run locals undefined_word (omega arith)) in
      let h1 : Words (set s0 (base + locals) locals) = words-set s0 h0 (base + locals) locals (omega arith) in
      words-set (set s0 (base + locals) locals) h1 (base + locals + 1) word w

fresh-words : (n locals word : ℕ) (l : Layout) → Room n locals l → word < 2 ^ 32 → Words (fresh n locals word l)
unfolding fresh
fresh-words n locals word l h w =
    let s0 = fresh_head (replicate n 0) (storage_start l) (base_of l) locals in
    let s1 = sets s0 8 (replicate l.globals undefined_word) in
    let h0 : Words s0 = head-words (replicate n 0) (words-run n 0 (omega arith)) (storage_start l) (base_of l) locals
    (omega (arith, h.longest, h.stack)) (omega (arith, h.longest, h.stack)) (omega (arith, h.longest, h.stack)) in
    let h1 : Words s1 = words-sets s0 h0 8 (replicate l.globals undefined_word) (words-run l.globals undefined_word (omega arith)) in
    let h2 : Words (fresh_storage s1 (storage_start l) l.array_words) = storage-words s1 h1 (storage_start l) l.array_words (omega (arith, h.longest, h.stack)) in
    frame-words (fresh_storage s1 (storage_start l) l.array_words) h2 (base_of l) locals word (omega (arith, h.longest, h.stack)) w

-- ---- the call

module _ (s : List ℕ) (p : Procedures) (l : Layout) where
  lay-out-refused : lay_out_refusal s p.regular p.alternate l ≢ 0 → laid_out s p.regular p.alternate l ≡ s
  unfolding laid_out
  lay-out-refused h = simp (ne_eqb (lay_out_refusal s p.regular p.alternate l) 0 h)

  lay-out-laid : lay_out_refusal s p.regular p.alternate l ≡ 0 → LaidOut s p l (laid_out s p.regular p.alternate l)
  lay-out-laid e = record {
    words = fresh-said.said s p.regular p.alternate l e;
    accepted = passes_of (laid_out s p.regular p.alternate l) p (fresh-theorem.accepted s p.regular p.alternate l e);
  }

  abbrev number : ℕ
  number = lay_out_refusal s p.regular p.alternate l

  pub lay-out-did : Did s (lay_out p l) (answer_of (operations.done_or_refused number)) (laid_out s p.regular p.alternate l)
  lay-out-did =
      by-eq number 0
      (λ e. rw (eq-eqb number 0 e) (is_laid_out (lay-out-told s p l ∙ e) (lay-out-laid e)))
      (λ d. rw (ne_eqb number 0 d, lay-out-refused d) (is_refused d (lay-out-told s p l)))

  done-words : number ≡ 0 → Words (laid_out s p.regular p.alternate l)
  done-words e =
      let k = passed p.regular p.alternate l s e in
      let w : word_of l < 2 ^ 32 = omega (arith, word_made l k.function.selector, k.function.selector, k.function.number) in
      subst Words (sym (laid_out_lem p.regular p.alternate l s e))
      (fresh-words (length s) (locals_of p.regular p.alternate l) (word_of l) l k.room w)

  pub lay-out-words : Words s → Words (laid_out s p.regular p.alternate l)
  lay-out-words h = by-eq number 0 done-words (λ d. subst Words (sym (lay-out-refused d)) h)
