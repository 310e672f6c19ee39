-- Operands taken.
use Prim.Native.Nat.{ℕ, ◌+◌, ◌-◌, ◌*◌, ◌/◌, ◌%◌, ◌^◌, ◌<◌, ◌≤◌}
use mathlib.Core.Path.{◌≡◌, sym, ◌∙◌, ap}
use mathlib.Core.List.{List, ◌++◌}
use mathlib.Core.Logic.{◌≢◌, inr}
use native.Mathlib.Omega.{arith}
use lib.ListN.{get_or, set, length, drop, length-set}
use lib.Seq.{get_or-set_same, get_or-set_other}
use Rattle.descriptor.specs.Fields.{array_word}
use Rattle.segment.specs.State.{sbase, ltop, lbase, blockptr, set_ltop}
use Rattle.segment.specs.Stack.{downward}
use Rattle.segment.specs.Cells.{cell}
use Rattle.storage.specs.Arrays.{drop_words}
use Rattle.storage.specs.Heap.{count}
use Rattle.storage.specs.Owned.{Owned, OwnedStep}
use Rattle.segment.specs.Machine.{map_machine, all_cells}
use Rattle.segment.specs.View.{words, owners, view}
use Rattle.manual.specs.Effects as manual
use Rattle.manual.proofs.Machines.{map-drop}
use Rattle.storage_theorems.proofs.Counts.{count-append}
use Rattle.storage_theorems.specs.Elsewhere.{Elsewhere}
use Rattle.storage_theorems.proofs.Owners.{reown}
use Rattle.storage_theorems.proofs.Steps.{downward-same, drops-own}
use Rattle.storage_theorems.proofs.Elsewhere.{own-elsewhere, cell-elsewhere}
use Rattle.effects.specs.Perform.{bottom_of, discard}
use Rattle.effects.specs.Seen.{temporaries}
use Rattle.effects.specs.Sound.{Sound}
use Rattle.effects_theorems.specs.Theorems.{StateKept}
use Rattle.effects_theorems.proofs.StateWords.{state-on, state-step, state-top}
use Rattle.frame_theorems.proofs.Counts.{machine-agree, cells_count}
use Rattle.frame_theorems.proofs.Frames.{drop-downward, chain_same, words-kept, words_left}
use Rattle.effects_theorems.proofs.Sound.{Bounds, bounds, Regs, kept-regs, Done}
use Rattle.effects_theorems.proofs.Replace.{temporaries-split}

-- the stack ends `n` cells lower
module _ (s : List ℕ) (n : ℕ) (some : n ≤ ltop s - (lbase s + 1)) (low : 8 ≤ blockptr s) (mid : blockptr s ≤ sbase s) (above : lbase s + 1 ≤ ltop s)
    (fit : sbase s + ltop s < length s) where
  abbrev s' : List ℕ
  s' = set s 0 (sbase s * 2 ^ 16 + (ltop s - n))

  cut-other : (j : ℕ) → j ≢ 0 → get_or s' j 0 ≡ get_or s j 0
  cut-other j h = rw get_or-set_other

  zero_word : get_or s' 0 0 ≡ sbase s * 2 ^ 16 + (ltop s - n)
  zero_word = let l : 0 < length s = omega arith in rw get_or-set_same

  cut-regs : (sbase s' ≡ sbase s) × (ltop s' ≡ ltop s - n)
  cut-regs = omega (arith, zero_word)

  cut-elsewhere : Elsewhere s s'
  cut-elsewhere = record {
    long = length-set s 0 (sbase s * 2 ^ 16 + (ltop s - n));
    bound = cut-regs.0;
    turn = ap (λ (w : ℕ). w % 2 ^ 16) (cut-other 1 (omega arith));
    start = cut-other 4 (omega arith);
    inner = λ j l u. cut-other j (omega arith);
  }

  cut-words : words s' ≡ manual.discard n (words s)
  unfolding words
  cut-words =
      let lb : lbase s' ≡ lbase s = ap (λ (w : ℕ). w / 2 ^ 16) (cut-other 1 (omega arith)) in
      let o2 : get_or s' 2 0 ≡ get_or s 2 0 = cut-other 2 (omega arith) in
      let e : ltop s - n - (lbase s + 1) ≡ ltop s - (lbase s + 1) - n = omega arith in
      let k : ltop s - (lbase s + 1) ≡ ltop s - (lbase s + 1) - n + n = omega arith in
      let tm : downward s' (sbase s + lbase s + 2) (ltop s - (lbase s + 1) - n) ≡ drop n (downward s (sbase s + lbase s + 2) (ltop s - (lbase s + 1))) =
      downward-same s s' (sbase s + lbase s + 2) (ltop s - (lbase s + 1) - n) (λ j l u. cut-other j (omega arith))
      ∙ sym
      (ap (λ (i : ℕ). drop n (downward s (sbase s + lbase s + 2) i)) k ∙ drop-downward s (sbase s + lbase s + 2) (ltop s - (lbase s + 1) - n) n) in
      words_left s s' low cut-regs.0 lb (λ j l u. cut-other j (omega arith)) (λ j l u. cut-other j (omega arith)) ∙ rw (o2, cut-regs.1, e, tm)

module _ (s : List ℕ) (g : Sound s) (n : ℕ) (some : n ≤ temporaries s) where
  abbrev b : ℕ
  b = bottom_of s n

  abbrev s2 : List ℕ
  s2 = drop_words n s b

  abbrev us : List ℕ
  us = all_cells (manual.discard n (words s))

  low : Bounds s
  low = bounds g

  split-count : (x : ℕ) → count x (downward s b n ++ us) ≡ count x (owners s)
  split-count x =
      omega (
        arith,
        count-append x (downward s b n) us,
        cells_count x (manual.discard n (words s)),
        cells_count x (words s),
        ap (count x) (temporaries-split s n some g.above),
        count-append x (downward s b n) (drop n (words s).temporaries),
      )

  -- the operands own what they hold, and stand above array storage
  pub discard-own : Owned s (downward s b n ++ us)
  discard-own = reown (downward s b n ++ us) (λ x l. split-count (array_word x)) g.own

  pub discard-above : sbase s ≤ b
  discard-above = omega (arith, low, some)

  dropped : OwnedStep s (downward s b n ++ us) s2 us
  dropped = drops-own n us b discard-own discard-above

  regs2 : Regs s s2
  regs2 = kept-regs dropped.kept low.low

  some2 : n ≤ ltop s2 - (lbase s2 + 1)
  some2 = omega (arith, regs2, some)

  low2 : 8 ≤ blockptr s2
  low2 = omega (arith, regs2, low)

  mid2 : blockptr s2 ≤ sbase s2
  mid2 = omega (arith, regs2, low)

  above2 : lbase s2 + 1 ≤ ltop s2
  above2 = omega (arith, regs2, low)

  fit2 : sbase s2 + ltop s2 < length s2
  fit2 = omega (arith, regs2, low)

  abbrev s3 : List ℕ
  s3 = set s2 0 (sbase s2 * 2 ^ 16 + (ltop s2 - n))

  words3 : words s3 ≡ manual.discard n (words s)
  words3 = cut-words s2 n some2 low2 mid2 above2 fit2 ∙ ap (manual.discard n) (words-kept s s2 dropped.kept low.low (omega (arith, low)))

  moved : Elsewhere s2 s3
  moved = cut-elsewhere s2 n some2 low2 mid2 above2 fit2

  discard-is : discard s n ≡ s3
  unfolding discard set_ltop
  discard-is = rw regs2.top

  same3 : (i : ℕ) → sbase s ≤ i → get_or s3 i 0 ≡ get_or s i 0
  same3 i l = cut-other s2 n some2 low2 mid2 above2 fit2 i (omega (arith, low)) ∙ dropped.kept.rest i (omega (arith, low)) (inr l)

  sound3 : Sound s3
  sound3 =
      let q = cut-regs s2 n some2 low2 mid2 above2 fit2 in
      let lb : lbase s3 ≡ lbase s = ap (λ (w : ℕ). w / 2 ^ 16) (cut-other s2 n some2 low2 mid2 above2 fit2 1 (omega arith)) ∙ regs2.frame in
      record {
        own = rw words3 (own-elsewhere moved dropped.own);
        fits = omega (arith, q, moved.long, fit2);
        above = omega (arith, q, lb, regs2, some, low);
        chain = rw lb (chain_same s3 g.chain (q.0 ∙ regs2.base) (λ i l u. same3 i l));
      }

  view3 : view s3 ≡ manual.discard n (view s)
  unfolding view
  view3 =
      ap (map_machine (cell s3)) words3
      ∙ machine-agree (cell s3) (cell s) (manual.discard n (words s))
      (λ w c. cell-elsewhere moved dropped.own w c ∙ dropped.same w (omega (arith, c, count-append w (downward s b n) us)) c)
      ∙ rw (map-drop (cell s) n (words s).temporaries)

  state3 : StateKept s s3
  state3 = state-on (state-step dropped.kept low.low) (state-top s2 (ltop s2 - n) (omega (arith, fit2)) (omega arith))

  pub discard-done : Done s (discard s n) (manual.discard n (view s))
  discard-done = rw discard-is (record { sound = sound3; seen = view3; state = state3 })
