-- A new frame on top of its arguments.
use Prim.Native.Nat.{ℕ, zero, suc, ◌+◌, ◌-◌, ◌*◌, ◌/◌, ◌%◌, ◌^◌, ◌<◌, ◌≤◌}
use mathlib.Core.Path.{◌≡◌, refl, ◌∙◌, ap}
use mathlib.Core.Bool.{false}
use mathlib.Core.List.{List, [], ◌∷◌, ◌++◌}
use mathlib.Core.Logic.{◌≢◌, ◌⊎◌, inl, inr, ⊎_elim}
use native.Mathlib.Omega.{arith}
use lib.ListN.{get_or, set, length, replicate, length-set}
use lib.Seq.{sets, length-sets, get_or-set_same, get_or-set_other}
use Rattle.descriptor.specs.Fields.{array_word, is_array, undefined_word}
use Rattle.segment.specs.State.{sbase, ltop, lbase, rover, blockptr, set_ltop, set_lbase}
use Rattle.segment.specs.Blocks.{part}
use Rattle.segment.specs.Stack.{downward}
use Rattle.segment.specs.Cells.{Cell, undefined, cell}
use Rattle.storage.specs.Heap.{count}
use Rattle.segment.specs.Machine.{Machine, map_machine, cells_of_frames, all_cells}
use Rattle.segment.specs.View.{frames_from, words, owners, view}
use Rattle.segment.proofs.Runs.{undefined-cell, part_same}
use Rattle.manual.specs.Effects as manual
use Rattle.manual.proofs.Machines.{map-run}
use Rattle.segment.proofs.Copies.{sets-other}
use Rattle.storage_theorems.proofs.Counts.{count-append}
use Rattle.storage_theorems.specs.Elsewhere.{Elsewhere}
use Rattle.storage_theorems.proofs.Owners.{reown}
use Rattle.storage_theorems.proofs.Steps.{plain, downward-same, downward-split}
use Rattle.storage_theorems.proofs.Elsewhere.{own-elsewhere, cell-elsewhere}
use Rattle.effects.specs.Perform.{enter}
use Rattle.effects.specs.Sound.{Chain, upon, Sound}
use Rattle.effects_theorems.specs.Theorems.{StateKept}
use Rattle.frame_theorems.proofs.Counts.{machine-agree, cells_count}
use Rattle.frame_theorems.proofs.Frames.{frames-next, frames-fuel, frames-same, chain_same}
use Rattle.effects_theorems.proofs.Sound.{Bounds, bounds, Done}

-- a run of equal words, and two words after it
sets-run : (n : ℕ) (s : List ℕ) (i c : ℕ) (vs : List ℕ) → i + n ≤ length s → (k : ℕ) → k < n → get_or (sets s i (replicate n c ++ vs)) (i + k) 0 ≡ c
sets-run zero s i c vs h k l = absurd (omega arith)
sets-run (suc n) s i c vs h zero l =
    let e : i + 0 ≡ i = omega arith in
    let q : i < length s = omega arith in
    rw e (sets-other (replicate n c ++ vs) (set s i c) (suc i) i (inl (omega arith)) ∙ rw get_or-set_same)
sets-run (suc n) s i c vs h (suc k) l =
    let e : i + suc k ≡ suc i + k = omega arith in
    rw e (sets-run n (set s i c) (suc i) c vs (omega (arith, length-set s i c)) k (omega arith))

downward-run : (n : ℕ) (s : List ℕ) (a c : ℕ) → ((k : ℕ) → k < n → get_or s (a + k) 0 ≡ c) → downward s a n ≡ replicate n c
downward-run zero s a c h = refl
downward-run (suc n) s a c h =
    let e : get_or s (a + n) 0 ≡ c = h n (omega arith) in
    let r : downward s a n ≡ replicate n c = downward-run n s a c (λ k l. h k (omega arith)) in
    cc

length_run : (n c : ℕ) (vs : List ℕ) → length (replicate n c ++ vs) ≡ n + length vs
length_run zero c vs = omega arith
length_run (suc n) c vs = omega (arith, length_run n c vs)

sets-after : (n : ℕ) (s : List ℕ) (i c u v : ℕ) → i + n + 2 ≤ length s
    → (get_or (sets s i (replicate n c ++ (u ∷ v ∷ []))) (i + n) 0 ≡ u) × (get_or (sets s i (replicate n c ++ (u ∷ v ∷ []))) (i + n + 1) 0 ≡ v)
sets-after zero s i c u v h =
    let e : i + 0 ≡ i = omega arith in
    let e1 : i + 1 ≡ suc i = omega arith in
    let d : i ≢ suc i = omega arith in
    let l : i < length s = omega arith in
    let l1 : suc i < length (set s i u) = omega (arith, length-set s i u) in
    rw (e, e1) (simp (get_or-set_other, get_or-set_same, d, l), simp (get_or-set_same, l1))
sets-after (suc n) s i c u v h =
    let e : i + suc n ≡ suc i + n = omega arith in
    rw e (sets-after n (set s i c) (suc i) c u v (omega (arith, length-set s i c)))

run-count : (n c x : ℕ) → is_array c ≡ false → x < 2 ^ 16 → count (array_word x) (replicate n c) ≡ 0
run-count zero c x h l = refl
run-count (suc n) c x h l = plain c (replicate n c) h x l ∙ run-count n c x h l

module _ (s : List ℕ) (g : Sound s) (n f : ℕ) (fit : sbase s + ltop s + n + 2 < length s) where
  abbrev t : ℕ
  t = sbase s + ltop s + 1

  abbrev vs : List ℕ
  vs = replicate n undefined_word ++ (lbase s ∷ f ∷ [])

  abbrev s1 : List ℕ
  s1 = sets s t vs

  abbrev w0 : ℕ
  w0 = sbase s * 2 ^ 16 + (ltop s + n + 2)

  abbrev w1 : ℕ
  w1 = (ltop s + n + 1) * 2 ^ 16 + rover s

  abbrev s2 : List ℕ
  s2 = set (set s1 0 w0) 1 w1

  low : Bounds s
  low = bounds g

  long-run : length vs ≡ n + 2
  long-run = length_run n undefined_word (lbase s ∷ f ∷ [])

  long1 : length s1 ≡ length s
  long1 = length-sets s t vs

  over1 : (j : ℕ) → j ≢ 0 → j ≢ 1 → get_or s2 j 0 ≡ get_or s1 j 0
  over1 j a b = simp (get_or-set_other, a, b)

  under1 : (j : ℕ) → (j < t) ⊎ (t + n + 2 ≤ j) → get_or s1 j 0 ≡ get_or s j 0
  under1 j h = sets-other vs s t j (⊎_elim (λ q. inl q) (λ q. inr (omega (arith, q, long-run))) h)

  other : (j : ℕ) → j ≢ 0 → j ≢ 1 → (j < t) ⊎ (t + n + 2 ≤ j) → get_or s2 j 0 ≡ get_or s j 0
  other j a b h = over1 j a b ∙ under1 j h

  first : get_or s2 0 0 ≡ w0
  first =
      let d : ◌≢◌ {A = ℕ} 0 1 = omega arith in
      let l : 0 < length s1 = omega (arith, long1, fit) in
      simp (get_or-set_other, get_or-set_same, d, l)

  second : get_or s2 1 0 ≡ w1
  second = let l : 1 < length (set s1 0 w0) = omega (arith, long1, fit, length-set s1 0 w0, low) in rw get_or-set_same

  base2 : sbase s2 ≡ sbase s
  base2 = omega (arith, first, fit, low)

  top2 : ltop s2 ≡ ltop s + n + 2
  top2 = omega (arith, first, fit, low)

  frame2 : lbase s2 ≡ ltop s + n + 1
  frame2 = omega (arith, second)

  start2 : blockptr s2 ≡ blockptr s
  start2 = other 4 (omega arith) (omega arith) (inl (omega (arith, low)))

  moved : Elsewhere s s2
  moved = record {
    long = simp length-set long1;
    bound = base2;
    turn = omega (arith, second);
    start = start2;
    inner = λ i l u. other i (omega (arith, low)) (omega (arith, low)) (inl (omega arith));
  }

  cells2 : downward s2 (sbase s + (lbase s + 2)) (ltop s + n + 1 - (lbase s + 2))
      ≡ replicate n undefined_word ++ downward s (sbase s + lbase s + 2) (ltop s - (lbase s + 1))
  cells2 =
      let e : ltop s + n + 1 - (lbase s + 2) ≡ ltop s - (lbase s + 1) + n = omega (arith, low) in
      let o : sbase s + (lbase s + 2) ≡ sbase s + lbase s + 2 = omega arith in
      let a : sbase s + lbase s + 2 + (ltop s - (lbase s + 1)) ≡ t = omega (arith, low) in
      let r : downward s2 t n ≡ replicate n undefined_word = downward-run n s2 t undefined_word
      (λ k l. over1 (t + k) (omega (arith, low)) (omega (arith, low)) ∙ sets-run n s t undefined_word (lbase s ∷ f ∷ []) (omega (arith, fit)) k l) in
      let q : downward s2 (sbase s + lbase s + 2) (ltop s - (lbase s + 1)) ≡ downward s (sbase s + lbase s + 2) (ltop s - (lbase s + 1)) = downward-same s s2
      (sbase s + lbase s + 2) (ltop s - (lbase s + 1)) (λ i l u. other i (omega (arith, low)) (omega (arith, low)) (inl (omega (arith, low)))) in
      rw (e, o) (downward-split s2 (sbase s + lbase s + 2) (ltop s - (lbase s + 1)) n ∙ rw (a, r, q))

  marks : (get_or s2 (sbase s + (ltop s + n + 1)) 0 ≡ lbase s) × (get_or s2 (sbase s + (ltop s + n + 1) + 1) 0 ≡ f)
  marks =
      let r = sets-after n s t undefined_word (lbase s) f (omega (arith, fit)) in
      let a : sbase s + (ltop s + n + 1) ≡ t + n = omega arith in
      rw a
      (over1 (t + n) (omega (arith, low)) (omega (arith, low)) ∙ r.0, over1 (t + n + 1) (omega (arith, low)) (omega (arith, low)) ∙ r.1)

  same2 : (i : ℕ) → sbase s ≤ i → i < sbase s + lbase s + 2 → get_or s2 i 0 ≡ get_or s i 0
  same2 i l u = other i (omega (arith, low)) (omega (arith, low)) (inl (omega (arith, low)))

  frames2 : frames_from (suc (ltop s + n + 1)) s2 (ltop s + n + 1)
      ≡ record { function = f / 2 ^ 16; pctr = f % 2 ^ 16; cells = replicate n undefined_word ++ downward s (sbase s + lbase s + 2) (ltop s - (lbase s + 1)) }
      ∷ frames_from (suc (lbase s)) s (lbase s)
  frames2 =
      frames-next (ltop s + n + 1) s2 (ltop s + n + 1) (sbase s) (lbase s) f base2 marks.0 marks.1 (omega (arith, low))
      ∙ rw (
        cells2,
        frames-fuel (ltop s + n + 1) (suc (lbase s)) s2 (lbase s) (omega (arith, low)) (omega arith),
        frames-same (suc (lbase s)) s s2 (lbase s) base2 same2,
      )

  words2 : words s2 ≡ manual.enter undefined_word n f (words s)
  unfolding words
  words2 =
      let fl : get_or s2 2 0 ≡ get_or s 2 0 = other 2 (omega arith) (omega arith) (inl (omega (arith, low))) in
      let e : ltop s + n + 2 - (ltop s + n + 1 + 1) ≡ 0 = omega arith in
      let gl : part s2 8 (blockptr s - 8) ≡ part s 8 (blockptr s - 8) = part_same s s2 8 (blockptr s - 8)
      (λ i l u. other i (omega arith) (omega arith) (inl (omega (arith, low)))) in
      rw (fl, base2, top2, frame2, start2, e, frames2, gl)

  counted : (x : ℕ) → x < 2 ^ 16 → count (array_word x) (all_cells (manual.enter undefined_word n f (words s))) ≡ count (array_word x) (owners s)
  counted x l =
      omega (
        arith,
        cells_count (array_word x) (manual.enter undefined_word n f (words s)),
        cells_count (array_word x) (words s),
        count-append (array_word x) (replicate n undefined_word ++ (words s).temporaries) (cells_of_frames (words s).frames),
        count-append (array_word x) (replicate n undefined_word) (words s).temporaries,
        run-count n undefined_word x refl l,
      )

  sound2 : Sound s2
  sound2 = record {
    own = rw words2 (reown (all_cells (manual.enter undefined_word n f (words s))) counted (own-elsewhere moved g.own));
    fits = omega (arith, base2, top2, moved.long, fit);
    above = omega (arith, top2, frame2);
    chain = chain2;
  }
    where
      last2 : get_or s2 (sbase s2 + lbase s2) 0 ≡ lbase s
      last2 = rw (base2, frame2) marks.0

      chain2 : Chain s2 (lbase s2)
      chain2 =
          upon {base = lbase s2} (omega (arith, last2, frame2, low))
          (rw last2 (chain_same s2 g.chain base2 (λ i l u. same2 i l (omega arith))))

  enter-is : enter s n f ≡ s2
  unfolding enter set_ltop set_lbase
  enter-is =
      let z : get_or s1 0 0 ≡ get_or s 0 0 = under1 0 (inl (omega (arith, low))) in
      let d : ◌≢◌ {A = ℕ} 1 0 = omega arith in
      let r : get_or (set s1 0 w0) 1 0 ≡ get_or s 1 0 = rw get_or-set_other (under1 1 (inl (omega (arith, low)))) in
      rw (z, r)

  state2 : StateKept s s2
  state2 = record {
    long = moved.long;
    base = base2;
    rest = λ i l u. other i (omega arith) (omega arith) (inl (omega (arith, low)));
  }

  enter-map : {A : Type 0} (h : ℕ → A) (m : Machine ℕ) → map_machine h (manual.enter undefined_word n f m) ≡ manual.enter (h undefined_word) n f (map_machine h m)
  enter-map h m = rw (map-run h n undefined_word m.temporaries)

  view2 : view s2 ≡ manual.enter undefined n f (view s)
  unfolding view
  view2 =
      ap (map_machine (cell s2)) words2
      ∙ enter-map (cell s2) (words s)
      ∙ ap (manual.enter (cell s2 undefined_word) n f) (machine-agree (cell s2) (cell s) (words s) (λ w c. cell-elsewhere moved g.own w c))
      ∙ ap (λ (c : Cell). manual.enter c n f (map_machine (cell s) (words s))) (undefined-cell s2)

  pub enter-done : Done s (enter s n f) (manual.enter undefined n f (view s))
  enter-done = rw enter-is (record { sound = sound2; seen = view2; state = state2 })
