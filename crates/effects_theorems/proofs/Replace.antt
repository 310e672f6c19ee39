-- Operands taken and a result in their place.
use Prim.Native.Nat.{ℕ, suc, ◌+◌, ◌-◌, ◌*◌, ◌/◌, ◌%◌, ◌^◌, ◌<◌, ◌≤◌}
use mathlib.Core.Path.{◌≡◌, sym, ◌∙◌, ap, subst}
use mathlib.Core.List.{List, ◌∷◌, ◌++◌}
use mathlib.Core.Logic.{◌≢◌, inr}
use native.Mathlib.Omega.{arith}
use lib.ListN.{get_or, set, length, drop, length-set}
use lib.Seq.{get_or-set_same, get_or-set_other}
use Rattle.descriptor.specs.Fields.{array_word}
use Rattle.segment.specs.State.{sbase, ltop, lbase, blockptr, set_ltop}
use Rattle.segment.specs.Stack.{downward}
use Rattle.segment.specs.Cells.{Cell, cell}
use Rattle.storage.specs.Arrays.{drop_words}
use Rattle.storage.specs.Heap.{count}
use Rattle.storage.specs.Owned.{Owned, CellsKept, OwnedStep}
use Rattle.segment.specs.Machine.{Machine, map_machine, all_cells}
use Rattle.segment.specs.View.{words, owners, view}
use Rattle.manual.specs.Effects as manual
use Rattle.manual.proofs.Machines.{map-drop}
use Rattle.storage_theorems.proofs.Counts.{count-append}
use Rattle.storage_theorems.specs.Elsewhere.{Elsewhere}
use Rattle.storage_theorems.proofs.Owners.{reown}
use Rattle.storage_theorems.proofs.Steps.{kept_on, downward-same, downward-split, drops-own}
use Rattle.storage_theorems.proofs.Elsewhere.{own-elsewhere, cell-elsewhere}
use Rattle.effects.specs.Perform.{bottom_of, finish}
use Rattle.effects.specs.Seen.{temporaries}
use Rattle.effects.specs.Sound.{Sound}
use Rattle.effects.specs.Fits.{CanReplace}
use Rattle.effects_theorems.specs.Theorems.{StateKept}
use Rattle.effects_theorems.proofs.StateWords.{state-on, state-step, state-set, state-top}
use Rattle.frame_theorems.proofs.Counts.{machine-agree, cells_count}
use Rattle.frame_theorems.proofs.Frames.{drop-downward, chain_same, words-kept, words_left}
use Rattle.effects_theorems.proofs.Sound.{Bounds, bounds, Regs, kept-regs, Done}
use Rattle.effects_theorems.proofs.Sources.{Put}

pub replace-map : {A : Type 0} (f : ℕ → A) (n w : ℕ) (m : Machine ℕ) → map_machine f (manual.replace n w m) ≡ manual.replace n (f w) (map_machine f m)
replace-map f n w m = rw (map-drop f n m.temporaries)

-- the operands that are taken stand highest
pub temporaries-split : (s : List ℕ) (n : ℕ) → n ≤ temporaries s → lbase s + 1 ≤ ltop s
    → (words s).temporaries ≡ downward s (bottom_of s n) n ++ drop n (words s).temporaries
unfolding words
temporaries-split s n some above =
    let q : ltop s - (lbase s + 1) ≡ ltop s - (lbase s + 1) - n + n = omega arith in
    let p : sbase s + lbase s + 2 + (ltop s - (lbase s + 1) - n) ≡ sbase s + ltop s + 1 - n = omega arith in
    subst
    (λ (k : ℕ). downward s (sbase s + lbase s + 2) k ≡ downward s (sbase s + ltop s + 1 - n) n ++ drop n (downward s (sbase s + lbase s + 2) k)) (sym q)
    (rw (drop-downward s (sbase s + lbase s + 2) (ltop s - (lbase s + 1) - n) n, ← p)
    (downward-split s (sbase s + lbase s + 2) (ltop s - (lbase s + 1) - n) n))

-- a word on top of what is left of the stack
module _ (s : List ℕ) (n w b : ℕ) (at : b + n ≡ sbase s + ltop s + 1) (some : n ≤ ltop s - (lbase s + 1)) (fit : b < length s) (short : length s ≤ 16384)
    (low : 8 ≤ blockptr s) (mid : blockptr s ≤ sbase s) (above : lbase s + 1 ≤ ltop s) where
  abbrev s' : List ℕ
  s' = set (set s 0 (sbase s * 2 ^ 16 + (b - sbase s))) b w

  finish-other : (i : ℕ) → i ≢ 0 → i ≢ b → get_or s' i 0 ≡ get_or s i 0
  finish-other i k m = simp (get_or-set_other, k, m)

  zero_word : get_or s' 0 0 ≡ sbase s * 2 ^ 16 + (ltop s + 1 - n)
  zero_word =
      let k : 0 ≢ b = omega arith in
      let l : 0 < length s = omega arith in
      let e : b - sbase s ≡ ltop s + 1 - n = omega arith in
      simp (get_or-set_other, get_or-set_same, e, k, l)

  there : get_or s' b 0 ≡ w
  there = let l : b < length (set s 0 (sbase s * 2 ^ 16 + (b - sbase s))) = omega (arith, length-set s 0 (sbase s * 2 ^ 16 + (b - sbase s))) in rw get_or-set_same

  finish-elsewhere : Elsewhere s s'
  finish-elsewhere = record {
    long = simp length-set;
    bound = omega (arith, zero_word);
    turn = ap (λ (v : ℕ). v % 2 ^ 16) (finish-other 1 (omega arith) (omega arith));
    start = finish-other 4 (omega arith) (omega arith);
    inner = λ i l u. finish-other i (omega arith) (omega arith);
  }

  finish_regs : (sbase s' ≡ sbase s) × (ltop s' ≡ ltop s + 1 - n) × (lbase s' ≡ lbase s) × (length s' ≡ length s)
  finish_regs =
      (finish-elsewhere.bound, omega (arith, zero_word), ap (λ (v : ℕ). v / 2 ^ 16) (finish-other 1 (omega arith) (omega arith)), finish-elsewhere.long)

  finish-words : words s' ≡ manual.replace n w (words s)
  unfolding words
  finish-words =
      let lt : ltop s' ≡ ltop s + 1 - n = omega (arith, zero_word) in
      let fl : get_or s' 2 0 ≡ get_or s 2 0 = finish-other 2 (omega arith) (omega arith) in
      words_left s s' low finish_regs.0 finish_regs.2 (λ i p q. finish-other i (omega arith) (omega arith))
      (λ i p q. finish-other i (omega arith) (omega arith))
      ∙ rw (fl, lt, tops)
    where
      tops : downward s' (sbase s + lbase s + 2) (ltop s + 1 - n - (lbase s + 1)) ≡ w ∷ drop n (downward s (sbase s + lbase s + 2) (ltop s - (lbase s + 1)))
      tops =
          let e : ltop s + 1 - n - (lbase s + 1) ≡ suc (ltop s - (lbase s + 1) - n) = omega arith in
          let q : ltop s - (lbase s + 1) ≡ ltop s - (lbase s + 1) - n + n = omega arith in
          let p : sbase s + lbase s + 2 + (ltop s - (lbase s + 1) - n) ≡ b = omega arith in
          let r : downward s' (sbase s + lbase s + 2) (ltop s - (lbase s + 1) - n) ≡ downward s (sbase s + lbase s + 2) (ltop s - (lbase s + 1) - n) = downward-same
          s s' (sbase s + lbase s + 2) (ltop s - (lbase s + 1) - n) (λ i l u. finish-other i (omega arith) (omega arith)) in
          let d : drop n (downward s (sbase s + lbase s + 2) (ltop s - (lbase s + 1))) ≡ downward s (sbase s + lbase s + 2) (ltop s - (lbase s + 1) - n) =
          ap (λ (k : ℕ). drop n (downward s (sbase s + lbase s + 2) k)) q ∙ drop-downward s (sbase s + lbase s + 2) (ltop s - (lbase s + 1) - n) n in
          rw (e, p, there, r, d)

-- the result is placed, the operands are dropped, and its word takes their place
module _ (s : List ℕ) (g : Sound s) (n w : ℕ) (c : Cell) (s1 : List ℕ) (first : Put s (owners s) s1 w c) (can : CanReplace s n) where
  abbrev m : Machine ℕ
  m = words s

  abbrev b : ℕ
  b = bottom_of s n

  abbrev s2 : List ℕ
  s2 = drop_words n s1 b

  abbrev vs : List ℕ
  vs = all_cells (manual.replace n w m)

  low : Bounds s
  low = bounds g

  -- the operands stand as they did, own what they hold, and stand above array storage
  pub replace-cells : downward s1 b n ≡ downward s b n
  replace-cells =
      downward-same s s1 b n (λ i p q. first.step.kept.rest i (omega (arith, low, can)) (inr (omega (arith, low, can))))

  counted : (x : ℕ) → count x (downward s1 b n ++ vs) ≡ count x (w ∷ owners s)
  counted x =
      omega (
        arith,
        count-append x (downward s1 b n) vs,
        ap (count x) replace-cells,
        cells_count x (manual.replace n w m),
        cells_count x m,
        ap (count x) (temporaries-split s n can.taken g.above),
        count-append x (downward s b n) (drop n m.temporaries),
      )

  pub replace-own : Owned s1 (downward s1 b n ++ vs)
  replace-own = reown (downward s1 b n ++ vs) (λ x l. counted (array_word x)) first.step.own

  pub replace-above : sbase s1 ≤ b
  replace-above = omega (arith, kept-regs first.step.kept low.low, low, can)

  second : OwnedStep s1 (downward s1 b n ++ vs) s2 vs
  second = drops-own n vs b replace-own replace-above

  kept2 : CellsKept s s2
  kept2 = kept_on low.low first.step.kept second.kept

  regs : Regs s s2
  regs = kept-regs kept2 low.low

  at2 : b + n ≡ sbase s2 + ltop s2 + 1
  at2 = omega (arith, regs, low, can)

  some2 : n ≤ ltop s2 - (lbase s2 + 1)
  some2 = omega (arith, regs, can)

  fit2 : b < length s2
  fit2 = omega (arith, regs, can)

  short2 : length s2 ≤ 16384
  short2 = omega (arith, regs, low)

  low2 : 8 ≤ blockptr s2
  low2 = omega (arith, regs, low)

  mid2 : blockptr s2 ≤ sbase s2
  mid2 = omega (arith, regs, low)

  above2 : lbase s2 + 1 ≤ ltop s2
  above2 = omega (arith, regs, low)

  moved : Elsewhere s2 (finish s2 b w)
  unfolding finish set_ltop
  moved = finish-elsewhere s2 n w b at2 some2 fit2 short2 low2 mid2 above2

  words3 : words (finish s2 b w) ≡ manual.replace n w m
  unfolding finish set_ltop
  words3 =
      finish-words s2 n w b at2 some2 fit2 short2 low2 mid2 above2
      ∙ ap (manual.replace n w) (words-kept s s2 kept2 low.low (omega (arith, low)))

  regs3 : (sbase (finish s2 b w) ≡ sbase s) × (ltop (finish s2 b w) ≡ ltop s + 1 - n) × (lbase (finish s2 b w) ≡ lbase s)
      × (length (finish s2 b w) ≡ length s)
  unfolding finish set_ltop
  regs3 =
      let f = finish_regs s2 n w b at2 some2 fit2 short2 low2 mid2 above2 in
      (f.0 ∙ regs.base, f.1 ∙ ap (λ (v : ℕ). v + 1 - n) regs.top, f.2 ∙ regs.frame, f.3 ∙ regs.long)

  same3 : (i : ℕ) → sbase s ≤ i → i < sbase s + lbase s + 2 → get_or (finish s2 b w) i 0 ≡ get_or s i 0
  unfolding finish set_ltop
  same3 i l u =
      finish-other s2 n w b at2 some2 fit2 short2 low2 mid2 above2 i (omega (arith, low)) (omega (arith, low, can))
      ∙ kept2.rest i (omega (arith, low)) (inr l)

  finish-state : StateKept s (finish s2 b w)
  unfolding finish set_ltop
  finish-state =
      state-on (state-step kept2 low.low)
      (state-on (state-top s2 (b - sbase s2) (omega (arith, fit2)) (omega (arith, fit2, short2)))
      (state-set (set s2 0 (sbase s2 * 2 ^ 16 + (b - sbase s2))) b w (omega (arith, low, can)) (inr (omega (arith, low, can)))))

  -- every cell that is left is seen as before
  left3 : (v : ℕ) → 0 < count v vs → cell (finish s2 b w) v ≡ cell s1 v
  left3 v k = cell-elsewhere moved second.own v k ∙ second.same v (omega (arith, k, count-append v (downward s1 b n) vs)) k

  finish-view : view (finish s2 b w) ≡ manual.replace n c (view s)
  unfolding view
  finish-view =
      ap (map_machine (cell (finish s2 b w))) words3
      ∙ machine-agree (cell (finish s2 b w)) (cell s1) (manual.replace n w m) left3
      ∙ replace-map (cell s1) n w m
      ∙ ap (λ (d : Cell). manual.replace n d (map_machine (cell s1) m)) first.shown
      ∙ ap (manual.replace n c) (machine-agree (cell s1) (cell s) m (λ v k. first.step.same v k (omega (arith, k))))

  finish-sound : Sound (finish s2 b w)
  finish-sound = record {
    own = rw words3 (own-elsewhere moved second.own);
    fits = omega (arith, regs3, can, low);
    above = omega (arith, regs3, can, low);
    chain = rw regs3.2 (chain_same (finish s2 b w) g.chain regs3.0 (λ i p q. same3 i p (omega arith)));
  }

  pub finish-done : Done s (finish s2 b w) (manual.replace n c (view s))
  finish-done = record { sound = finish-sound; seen = finish-view; state = finish-state }
