-- A result stored into a variable.
use Prim.Native.Nat.{ℕ, suc, ◌/◌, ◌%◌, ◌^◌, ◌<◌, ◌≤◌}
use mathlib.Core.Path.{◌≡◌, refl, sym, ◌∙◌, ap}
use mathlib.Core.List.{List, ◌∷◌}
use mathlib.Core.Logic.{◌≢◌, inl, inr, ⊎_elim}
use native.Mathlib.Omega.{arith}
use lib.ListN.{get_or, set, length, length-set}
use lib.Seq.{get_or-set_same, get_or-set_other}
use Rattle.descriptor.specs.declared.Target.{Target}
use Rattle.descriptor.specs.Fields.{array_word}
use Rattle.segment.specs.State.{blockptr}
use Rattle.segment.specs.Cells.{Cell, cell}
use Rattle.storage.specs.Arrays.{drop_word}
use Rattle.storage.specs.Heap.{hit, count}
use Rattle.storage.specs.Owned.{Owned, CellsKept, OwnedStep}
use Rattle.segment.specs.Machine.{Machine, map_machine, all_cells}
use Rattle.segment.specs.View.{words, owners, view}
use Rattle.manual.specs.Effects.{put}
use Rattle.manual.proofs.Cellwise.{put_map}
use Rattle.storage_theorems.proofs.Counts.{hit_same, hit-cases}
use Rattle.storage_theorems.specs.Elsewhere.{Elsewhere}
use Rattle.storage_theorems.proofs.Owners.{reown}
use Rattle.storage_theorems.proofs.Steps.{kept_on, drop_own}
use Rattle.storage_theorems.proofs.Elsewhere.{own-elsewhere, cell-elsewhere}
use Rattle.effects.specs.Sources.{address_of, held_at}
use Rattle.effects.specs.Sound.{Sound}
use Rattle.effects.specs.Fits.{Addressable}
use Rattle.effects_theorems.specs.Theorems.{StateKept}
use Rattle.effects_theorems.proofs.StateWords.{state-on, state-step, state-set}
use Rattle.frame_theorems.proofs.Counts.{machine-agree, count-put}
use Rattle.frame_theorems.proofs.Frames.{chain_same, words-kept}
use Rattle.effects_theorems.proofs.Sound.{Bounds, bounds, Regs, kept-regs, set-elsewhere, InPlace}
use Rattle.effects_theorems.proofs.Variables.{Place, variable-place, words-put, variable-chain, same-put}
use Rattle.effects_theorems.proofs.Sources.{Put}

-- the same store after a step in array storage
kept_set : {s s1 : List ℕ} (i w : ℕ) → CellsKept s s1 → 8 ≤ i → i < length s → CellsKept (set s i w) (set s1 i w)
kept_set {s} {s1} i w k l m =
    let n0 : 0 ≢ i = omega arith in
    let n1 : 1 ≢ i = omega arith in
    let n4 : 4 ≢ i = omega arith in
    let e4 : blockptr (set s i w) ≡ blockptr s = rw get_or-set_other in
    let e0 : get_or (set s i w) 0 0 ≡ get_or s 0 0 = rw get_or-set_other in
    record {
      long = length-set s1 i w ∙ k.long ∙ sym (length-set s i w);
      first = simp (get_or-set_other, n0) k.first;
      base = simp (get_or-set_other, n1) k.base;
      rest = λ j p h. ⊎_elim (λ (e : (j ≡ i) × (hit j i ≡ 1)). same j e.0)
          (λ (e : (j ≢ i) × (hit j i ≡ 0)). let d : j ≢ i = e.0 in
          simp (get_or-set_other, d) (k.rest j p (⊎_elim (λ q. inl (omega (arith, q, e4))) (λ q. inr (omega (arith, q, e0))) h))) (hit-cases j i);
    }
  where
    same : (j : ℕ) → j ≡ i → get_or (set s1 i w) j 0 ≡ get_or (set s i w) j 0
    same j e =
        let l1 : i < length s1 = omega (arith, k.long) in
        rw e (rw get_or-set_same (sym (rw get_or-set_same refl)))

module _ (s : List ℕ) (g : Sound s) (t : Target) (at : Addressable s t) (w : ℕ) (c : Cell) (s1 : List ℕ) (first : Put s (owners s) s1 w c) where
  abbrev i : ℕ
  i = address_of s t

  abbrev u : ℕ
  u = held_at s t

  abbrev m : Machine ℕ
  m = words s

  abbrev s2 : List ℕ
  s2 = set s1 i w

  abbrev s3 : List ℕ
  s3 = drop_word s2 u

  abbrev vs : List ℕ
  vs = all_cells (put t w m)

  low : Bounds s
  low = bounds g

  spot : Place s i
  spot = variable-place s g t at

  regs1 : Regs s s1
  regs1 = kept-regs first.step.kept low.low

  moved : Elsewhere s1 s2
  moved =
      set-elsewhere s1 i w (omega (arith, low, regs1)) spot.state
      (⊎_elim (λ q. inl (omega (arith, q, regs1))) (λ q. inr (omega (arith, q, regs1))) spot.outside)

  -- the old value's owner goes, the new one's comes
  counted : (x : ℕ) → count x (u ∷ vs) ≡ count x (w ∷ owners s)
  counted x = omega (arith, count-put x t m w u at, ap (λ (q : Machine ℕ). count x (all_cells q)) (same-put s g t at))

  own2 : Owned s2 (u ∷ vs)
  own2 = reown (u ∷ vs) (λ x l. counted (array_word x)) (own-elsewhere moved first.step.own)

  second : OwnedStep s2 (u ∷ vs) s3 vs
  second = drop_own u own2

  abbrev s0 : List ℕ
  s0 = set s i w

  other0 : (j : ℕ) → j ≢ i → get_or s0 j 0 ≡ get_or s j 0
  other0 j n = rw get_or-set_other

  regs0 : Regs s s0
  regs0 = record {
    base = ap (λ (v : ℕ). v / 2 ^ 16) (other0 0 (omega (arith, spot.state)));
    top = ap (λ (v : ℕ). v % 2 ^ 16) (other0 0 (omega (arith, spot.state)));
    frame = ap (λ (v : ℕ). v / 2 ^ 16) (other0 1 (omega (arith, spot.state)));
    start = other0 4 (omega (arith, spot.state));
    long = length-set s i w;
  }

  kept3 : CellsKept s0 s3
  kept3 = kept_on (omega (arith, low, regs0)) (kept_set i w first.step.kept spot.state spot.within) second.kept

  regs3 : Regs s0 s3
  regs3 = kept-regs kept3 (omega (arith, low, regs0))

  words3 : words s3 ≡ put t w m
  words3 = words-kept s0 s3 kept3 (omega (arith, low, regs0)) (omega (arith, low, regs0)) ∙ words-put s g w t at

  -- every other cell is seen as before
  left : (v : ℕ) → 0 < count v vs → cell s3 v ≡ cell s1 v
  left v k = second.same v (omega (arith, k)) k ∙ cell-elsewhere moved first.step.own v (omega (arith, k, counted v))

  stored-view : view s3 ≡ put t c (view s)
  unfolding view
  stored-view =
      ap (map_machine (cell s3)) words3
      ∙ machine-agree (cell s3) (cell s1) (put t w m) left
      ∙ put_map (cell s1) t w m
      ∙ ap (λ (d : Cell). put t d (map_machine (cell s1) m)) first.shown
      ∙ ap (put t c) (machine-agree (cell s1) (cell s) m (λ v k. first.step.same v k (omega (arith, k))))

  stored-sound : Sound s3
  stored-sound = record {
    own = rw words3 second.own;
    fits = omega (arith, regs3, regs0, g.fits);
    above = omega (arith, regs3, regs0, g.above);
    chain = rw (regs3.frame ∙ regs0.frame)
        (chain_same s3 (variable-chain s g w t at) regs3.base (λ j l h. kept3.rest j (omega (arith, low, regs0)) (inr l)));
  }

  stored-state : StateKept s s3
  stored-state =
      state-on (state-set s i w (omega (arith, spot.state)) (inr spot.state)) (state-step kept3 (omega (arith, low, regs0)))

  stored-regs : Regs s s3
  stored-regs = record {
    base = regs3.base ∙ regs0.base;
    top = regs3.top ∙ regs0.top;
    frame = regs3.frame ∙ regs0.frame;
    start = regs3.start ∙ regs0.start;
    long = regs3.long ∙ regs0.long;
  }

  -- what the variable's cell holds now
  pub stored-word : get_or s3 i 0 ≡ w
  stored-word =
      let l : i < length s = spot.within in
      kept3.rest i (omega (arith, spot.state)) (⊎_elim (λ q. inl (omega (arith, q, regs0))) (λ q. inr (omega (arith, q, regs0))) spot.outside)
      ∙ rw get_or-set_same

  pub stored-this : cell s3 w ≡ c
  stored-this =
      left w
      (⊎_elim (λ e. absurd (omega (arith, e))) (λ e. omega (arith, e, hit_same w, count-put w t m w (suc w) at)) (hit-cases w (suc w)))
      ∙ first.shown

  pub stored : InPlace s s3 (put t w m) (put t c (view s))
  stored = record { done = record { sound = stored-sound; seen = stored-view; state = stored-state }; regs = stored-regs; held = words3 }
