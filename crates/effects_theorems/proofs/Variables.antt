-- A variable's cell among the words: where it stands, a store to it, and what it is seen as.
use Prim.Native.Nat.{ℕ, zero, suc, ◌+◌, ◌-◌, ◌/◌, ◌^◌, ◌<◌, ◌≤◌}
use mathlib.Core.Path.{◌≡◌, refl, sym, subst, ◌∙◌, ap}
use mathlib.Core.List.{List, [], ◌∷◌, map}
use mathlib.Core.Logic.{◌↔◌, ◌≢◌, ◌⊎◌, inl, inr, ⊎_elim}
use native.Mathlib.Omega.{arith}
use lib.ListN.{get_or, set, length, get_or-map}
use lib.Seq.{set-get_or, get_or-set_same, get_or-set_other}
use Rattle.descriptor.specs.declared.Target.{Target}
use Rattle.descriptor.specs.declared.Target.TheVariants.{Local, Global}
use Rattle.descriptor.specs.Fields.{undefined_word}
use Rattle.segment.specs.State.{sbase, ltop, lbase, blockptr}
use Rattle.segment.specs.Blocks.{part}
use Rattle.segment.specs.Stack.{last_lbase_at, code_word_at, downward}
use Rattle.segment.specs.Cells.{Cell, undefined, cell}
use Rattle.storage.specs.Heap.{count}
use Rattle.segment.specs.Machine.{Machine, map_machine, all_cells, depth_of_frames}
use Rattle.segment.specs.View.{frames_from, words, owners, view}
use Rattle.segment.proofs.Runs.{downward-length, part_length, undefined-cell, get_or-downward, part_same}
use Rattle.manual.specs.Effects.{index_in, look, put_frames, put, InFrames, AddressableIn}
use Rattle.manual.proofs.Cellwise.{index_in_lem, global-in, put-here, put-below, look-put, map-look, in_map}
use Rattle.storage_theorems.proofs.Counts.{order, hit_same, hit-cases}
use Rattle.storage_theorems.proofs.Steps.{downward-same}
use Rattle.storage_theorems.proofs.Element.{part-set}
use Rattle.effects.specs.Sources.{address_of, held_at, operand_at}
use Rattle.effects.specs.Seen.{temporaries}
use Rattle.effects.specs.Sound.{Chain, bottom, upon, Sound}
use Rattle.effects.specs.Fits.{Addressable}
use Rattle.frame_theorems.proofs.Counts.{cells_count, count-get_or, count-put}
use Rattle.frame_theorems.proofs.Frames.{frame, frames-bottom, frames-next, frames-same, chain_same, depth_is}
use Rattle.effects_theorems.proofs.Sound.{bounds}

downward-set : (s : List ℕ) (a n j w : ℕ) → j < n → a + n ≤ length s → downward (set s (a + n - 1 - j) w) a n ≡ set (downward s a n) j w
downward-set s a zero j w h l = absurd (omega arith)
downward-set s a (suc n) zero w h l =
    let e : a + suc n - 1 - 0 ≡ a + n = omega arith in
    let k : a + n < length s = omega arith in
    subst (λ (i : ℕ). downward (set s i w) a (suc n) ≡ set (downward s a (suc n)) 0 w) (sym e)
    (rw (get_or-set_same, downward-same s (set s (a + n) w) a n (λ i p q. let d : i ≢ a + n = omega arith in rw get_or-set_other)))
downward-set s a (suc n) (suc j) w h l =
    let d : a + n ≢ a + suc n - 1 - suc j = omega arith in
    let e : a + suc n - 1 - suc j ≡ a + n - 1 - j = omega arith in
    let r : downward (set s (a + suc n - 1 - suc j) w) a n ≡ set (downward s a n) j w = rw e (downward-set s a n j w (omega arith) (omega arith)) in
    rw (get_or-set_other, r)

-- a store to a word that is read among others from the highest down
pub downward-put : (s : List ℕ) (a n i w : ℕ) → a ≤ i → i < a + n → a + n ≤ length s → downward (set s i w) a n ≡ set (downward s a n) (a + n - 1 - i) w
downward-put s a n i w h k l =
    let q : a + n - 1 - (a + n - 1 - i) ≡ i = omega arith in
    rw q at (downward-set s a n (a + n - 1 - i) w (omega arith) l)

-- a frame's cell lies under the frame's words
in-base : {s : List ℕ} {base : ℕ} → Chain s base → (n a : ℕ) → base < n → InFrames a (frames_from n s base) → a < base
in-base {s} {base} c zero a l h = absurd (omega arith)
in-base {s} {base} (bottom q) (suc n) a l h = go (rw (frames-bottom n s base _ _ _ refl refl refl (omega arith)) at h)
  where
    go : InFrames a (frame s (code_word_at s base) (sbase s) 0 base ∷ []) → a < base
    go (inl k) = omega (arith, k, downward-length s (sbase s + 0) (base - 0))
    go (inr k) = absurd k
in-base {s} {base} (upon q c) (suc n) a l h =
    go (in-base {base = last_lbase_at s base} c n a (omega arith)) (depth_is c n (omega arith)) (rw (frames-next n s base _ _ _ refl refl refl (omega arith)) at h)
  where
    go : (InFrames a (frames_from n s (last_lbase_at s base)) → a < last_lbase_at s base)
        → depth_of_frames (frames_from n s (last_lbase_at s base)) ≡ last_lbase_at s base + 2
        → InFrames a (frame s (code_word_at s base) (sbase s) (last_lbase_at s base + 2) base ∷ frames_from n s (last_lbase_at s base)) → a < base
    go more d (inl k) = omega (arith, k, d, q, downward-length s (sbase s + (last_lbase_at s base + 2)) (base - (last_lbase_at s base + 2)))
    go more d (inr k) = omega (arith, q, more k)

-- a store to a frame's cell
module _ (s : List ℕ) (w : ℕ) (some : 1 ≤ sbase s) where
  module _ (i : ℕ) (above : sbase s ≤ i) where
    abbrev s' : List ℕ
    s' = set s i w

    other : (k : ℕ) → k ≢ i → get_or s' k 0 ≡ get_or s k 0
    other k n = rw get_or-set_other

    bound : sbase s' ≡ sbase s
    bound = ap (λ (m : ℕ). m / 2 ^ 16) (other 0 (omega arith))

    put-bottom : (n base a : ℕ) → base ≤ last_lbase_at s base → sbase s + base ≤ length s → sbase s + a ≡ i → a < base
        → frames_from (suc n) s' base ≡ put_frames a w (frames_from (suc n) s base)
    put-bottom n base a q l e k =
        let j : index_in {A = ℕ} (downward s (sbase s + 0) (base - 0)) [] a ≡ sbase s + 0 + (base - 0) - 1 - i =
        let z = downward-length s (sbase s + 0) (base - 0) in
        index_in_lem (downward s (sbase s + 0) (base - 0)) [] a (omega arith) ∙ omega arith in
        frames-bottom n s' base (sbase s) _ _ bound (other (sbase s + base) (omega arith)) (other (sbase s + base + 1) (omega arith)) q
        ∙ rw (downward-put s (sbase s + 0) (base - 0) i w (omega arith) (omega arith) (omega arith), ← j)
        (sym
        (ap (put_frames a w) (frames-bottom n s base (sbase s) _ _ refl refl refl q)
        ∙ put-here a w (frame s (code_word_at s base) (sbase s) 0 base) [] (omega arith)))

    put-upon : (n base a : ℕ) → last_lbase_at s base < base → sbase s + base ≤ length s → sbase s + a ≡ i → a < base
        → depth_of_frames (frames_from n s (last_lbase_at s base)) ≡ last_lbase_at s base + 2 → last_lbase_at s base + 2 ≤ base
        → (a < last_lbase_at s base + 2 → (a < last_lbase_at s base) × (frames_from n s' (last_lbase_at s base) ≡ put_frames a w (frames_from n s (last_lbase_at s base))))
        → frames_from (suc n) s' base ≡ put_frames a w (frames_from (suc n) s base)
    put-upon n base a q l e k d t more =
        frames-next n s' base (sbase s) _ _ bound (other (sbase s + base) (omega arith)) (other (sbase s + base + 1) (omega arith)) q
        ∙ ⊎_elim here below (order (last_lbase_at s base + 2) a)
        ∙ ap (put_frames a w) (sym (frames-next n s base (sbase s) _ _ refl refl refl q))
      where
        last : ℕ
        last = last_lbase_at s base

        here : last_lbase_at s base + 2 ≤ a
            → frame s' (code_word_at s base) (sbase s) (last_lbase_at s base + 2) base ∷ frames_from n s' (last_lbase_at s base)
            ≡ put_frames a w (frame s (code_word_at s base) (sbase s) (last_lbase_at s base + 2) base ∷ frames_from n s (last_lbase_at s base))
        here h =
            let b = last_lbase_at s base + 2 in
            let j : index_in (downward s (sbase s + (last_lbase_at s base + 2)) (base - (last_lbase_at s base + 2))) (frames_from n s (last_lbase_at s base)) a
            ≡ sbase s + (last_lbase_at s base + 2) + (base - (last_lbase_at s base + 2)) - 1 - i =
            let z = downward-length s (sbase s + (last_lbase_at s base + 2)) (base - (last_lbase_at s base + 2)) in
            index_in_lem (downward s (sbase s + (last_lbase_at s base + 2)) (base - (last_lbase_at s base + 2))) (frames_from n s (last_lbase_at s base)) a (omega arith)
            ∙ omega arith in
            rw (
              downward-put s (sbase s + (last_lbase_at s base + 2)) (base - (last_lbase_at s base + 2)) i w (omega arith) (omega arith) (omega arith),
              frames-same n s s' (last_lbase_at s base) bound (λ m x y. other m (omega arith)),
              ← j,
            )
            (sym
            (put-here a w (frame s (code_word_at s base) (sbase s) (last_lbase_at s base + 2) base) (frames_from n s (last_lbase_at s base)) (omega (arith, d))))

        below : a < last_lbase_at s base + 2
            → frame s' (code_word_at s base) (sbase s) (last_lbase_at s base + 2) base ∷ frames_from n s' (last_lbase_at s base)
            ≡ put_frames a w (frame s (code_word_at s base) (sbase s) (last_lbase_at s base + 2) base ∷ frames_from n s (last_lbase_at s base))
        below h =
            rw
            (downward-same s s' (sbase s + (last_lbase_at s base + 2)) (base - (last_lbase_at s base + 2)) (λ m x y. other m (omega arith)), (more h).1)
            (sym
            (put-below a w (frame s (code_word_at s base) (sbase s) (last_lbase_at s base + 2) base) (frames_from n s (last_lbase_at s base)) (omega (arith, d))))

  -- a frame's first word is no cell
  first-kept : (a base : ℕ) → a < base → last_lbase_at (set s (sbase s + a) w) base ≡ last_lbase_at s base
  first-kept a base k =
      let n : sbase s + base ≢ sbase s + a = omega arith in
      rw (bound (sbase s + a) (omega arith)) (rw get_or-set_other)

  in-older : (n base a : ℕ) → last_lbase_at s base + 2 ≤ base → depth_of_frames (frames_from n s (last_lbase_at s base)) ≡ last_lbase_at s base + 2
      → a < last_lbase_at s base + 2 → InFrames a (frames_from (suc n) s base) → InFrames a (frames_from n s (last_lbase_at s base))
  in-older n base a q d k h = go (rw (frames-next n s base _ _ _ refl refl refl (omega arith)) at h)
    where
      go : InFrames a (frame s (code_word_at s base) (sbase s) (last_lbase_at s base + 2) base ∷ frames_from n s (last_lbase_at s base))
          → InFrames a (frames_from n s (last_lbase_at s base))
      go (inl x) = absurd (omega (arith, x, d, k))
      go (inr x) = x

  chain-put : {base : ℕ} → Chain s base → (n a : ℕ) → base < n → InFrames a (frames_from n s base) → Chain (set s (sbase s + a) w) base
  chain-put {base} c zero a l h = absurd (omega arith)
  chain-put {base} (bottom q) (suc n) a l h =
      bottom {base = base} (first-kept a base (in-base (bottom {base = base} q) (suc n) a l h) ∙ q)
  chain-put {base} (upon q c) (suc n) a l h =
      let e = first-kept a base (in-base (upon {base = base} q c) (suc n) a l h) in
      upon {base = base} (omega (arith, e, q))
      (rw e
      (⊎_elim (λ (k : last_lbase_at s base + 2 ≤ a). chain_same (set s (sbase s + a) w) c (bound (sbase s + a) (omega arith))
      (λ i x y. other (sbase s + a) (omega arith) i (omega arith)))
      (λ (k : a < last_lbase_at s base + 2). chain-put {base = last_lbase_at s base} c n a (omega arith) (in-older n base a q (depth_is c n (omega arith)) k h))
      (order (last_lbase_at s base + 2) a)))

  frames-put : {base : ℕ} → Chain s base → (n a : ℕ) → base < n → InFrames a (frames_from n s base) → sbase s + base ≤ length s
      → frames_from n (set s (sbase s + a) w) base ≡ put_frames a w (frames_from n s base)
  frames-put {base} c zero a l h f = absurd (omega arith)
  frames-put {base} (bottom q) (suc n) a l h f =
      put-bottom (sbase s + a) (omega arith) n base a (omega arith) f refl (in-base (bottom {base = base} q) (suc n) a l h)
  frames-put {base} (upon q c) (suc n) a l h f =
      put-upon (sbase s + a) (omega arith) n base a (omega arith) f refl (in-base (upon {base = base} q c) (suc n) a l h) (depth_is c n (omega arith)) q
      (λ k. let older = in-older n base a q (depth_is c n (omega arith)) k h in
      (in-base c n a (omega arith) older, frames-put {base = last_lbase_at s base} c n a (omega arith) older (omega arith)))

-- where the variables stand
pub record Place (s : List ℕ) (i : ℕ) : Type 0 where
  pub state : 8 ≤ i
  pub outside : (i < blockptr s) ⊎ ((sbase s ≤ i) × (i < sbase s + lbase s))
  pub within : i < length s

module _ (s : List ℕ) (g : Sound s) where
  pub variable-place : (t : Target) → Addressable s t → Place s (address_of s t)
  unfolding words
  variable-place (Global q) h =
      let b = bounds g in
      let k : q.0 < blockptr s = omega (arith, h, part_length s 8 (blockptr s - 8)) in
      record { state = h.0; outside = inl k; within = omega arith }
  variable-place (Local a) h =
      let b = bounds g in
      let v : a.0 < lbase s = in-base g.chain (suc (lbase s)) a.0 (omega arith) h in
      record { state = omega arith; outside = inr (omega arith, omega arith); within = omega arith }

  words-local : (w a i : ℕ) → InFrames a (frames_from (suc (lbase s)) s (lbase s)) → sbase s + a ≡ i
      → words (set s i w) ≡ record { flags = (words s).flags; temporaries = (words s).temporaries; frames = put_frames a w (words s).frames; globals = (words s).globals }
  unfolding words
  words-local w a i h e =
      let b = bounds g in
      let v : a < lbase s = in-base g.chain (suc (lbase s)) a (omega arith) h in
      let other : (k : ℕ) → k ≢ i → get_or (set s i w) k 0 ≡ get_or s k 0 = λ k (m : k ≢ i). rw get_or-set_other in
      let o0 : get_or (set s i w) 0 0 ≡ get_or s 0 0 = other 0 (omega arith) in
      let o1 : get_or (set s i w) 1 0 ≡ get_or s 1 0 = other 1 (omega arith) in
      let o2 : get_or (set s i w) 2 0 ≡ get_or s 2 0 = other 2 (omega arith) in
      let o4 : get_or (set s i w) 4 0 ≡ get_or s 4 0 = other 4 (omega arith) in
      let gl : part (set s i w) 8 (blockptr s - 8) ≡ part s 8 (blockptr s - 8) = part_same s (set s i w) 8 (blockptr s - 8)
      (λ k p q. other k (omega arith)) in
      let tm : downward (set s i w) (sbase s + lbase s + 2) (ltop s - (lbase s + 1)) ≡ downward s (sbase s + lbase s + 2) (ltop s - (lbase s + 1)) = downward-same
      s (set s i w) (sbase s + lbase s + 2) (ltop s - (lbase s + 1)) (λ k p q. other k (omega arith)) in
      let fr : frames_from (suc (lbase s)) (set s i w) (lbase s) ≡ put_frames a w (frames_from (suc (lbase s)) s (lbase s)) = rw e at (frames-put s w (omega arith)
      g.chain (suc (lbase s)) a (omega arith) h (omega arith)) in
      rw (o0, o1, o2, o4, gl, tm, fr)

  words-global : (w q : ℕ) → 8 ≤ q → q < blockptr s
      → words (set s q w) ≡ record { flags = (words s).flags; temporaries = (words s).temporaries; frames = (words s).frames; globals = set (words s).globals (q - 8) w }
  unfolding words
  words-global w q h k =
      let b = bounds g in
      let other : (j : ℕ) → j ≢ q → get_or (set s q w) j 0 ≡ get_or s j 0 = λ j (m : j ≢ q). rw get_or-set_other in
      let o0 : get_or (set s q w) 0 0 ≡ get_or s 0 0 = other 0 (omega arith) in
      let o1 : get_or (set s q w) 1 0 ≡ get_or s 1 0 = other 1 (omega arith) in
      let o2 : get_or (set s q w) 2 0 ≡ get_or s 2 0 = other 2 (omega arith) in
      let o4 : get_or (set s q w) 4 0 ≡ get_or s 4 0 = other 4 (omega arith) in
      let e : 8 + (q - 8) ≡ q = omega arith in
      let gl : part (set s q w) 8 (blockptr s - 8) ≡ set (part s 8 (blockptr s - 8)) (q - 8) w = rw e at
      (part-set s 8 (blockptr s - 8) (q - 8) w (omega arith) (omega arith)) in
      let st : sbase (set s q w) ≡ sbase s = ap (λ (m : ℕ). m / 2 ^ 16) o0 in
      let tm : downward (set s q w) (sbase s + lbase s + 2) (ltop s - (lbase s + 1)) ≡ downward s (sbase s + lbase s + 2) (ltop s - (lbase s + 1)) = downward-same
      s (set s q w) (sbase s + lbase s + 2) (ltop s - (lbase s + 1)) (λ j x y. other j (omega arith)) in
      let fr : frames_from (suc (lbase s)) (set s q w) (lbase s) ≡ frames_from (suc (lbase s)) s (lbase s) = frames-same (suc (lbase s)) s (set s q w) (lbase s)
      st (λ j x y. other j (omega arith)) in
      rw (o0, o1, o2, o4, gl, tm, fr)

  -- a store to a variable
  pub words-put : (w : ℕ) (t : Target) → Addressable s t → words (set s (address_of s t) w) ≡ put t w (words s)
  unfolding words
  words-put w (Global q) h =
      rw (global-in (part s 8 (blockptr s - 8)) q.0 h.0)
      (words-global w q.0 h.0 (omega (arith, h, part_length s 8 (blockptr s - 8), bounds g)))
  words-put w (Local a) h = words-local w a.0 (sbase s + a.0) h refl

  pub variable-chain : (w : ℕ) (t : Target) → Addressable s t → Chain (set s (address_of s t) w) (lbase s)
  unfolding words
  variable-chain w (Global q) h =
      let b = bounds g in
      let k : q.0 < blockptr s = omega (arith, h, part_length s 8 (blockptr s - 8)) in
      let other : (j : ℕ) → j ≢ q.0 → get_or (set s q.0 w) j 0 ≡ get_or s j 0 = λ j (m : j ≢ q.0). rw get_or-set_other in
      chain_same (set s q.0 w) g.chain (ap (λ (m : ℕ). m / 2 ^ 16) (other 0 (omega (arith, h)))) (λ i x y. other i (omega arith))
  variable-chain w (Local a) h = chain-put s w (omega (arith, bounds g)) g.chain (suc (lbase s)) a.0 (omega arith) h

  module _ (t : Target) (at : Addressable s t) where
    pub same-put : put t (held_at s t) (words s) ≡ words s
    same-put = sym (words-put (held_at s t) t at) ∙ ap words (set-get_or s (address_of s t) 0)

    -- its word stands among the cells
    pub variable-owner : 0 < count (held_at s t) (owners s)
    variable-owner =
        ⊎_elim (λ e. absurd (omega (arith, e)))
        (λ e. omega (
          arith,
          e,
          count-put (held_at s t) t (words s) (held_at s t) (suc (held_at s t)) at,
          hit_same (held_at s t),
          ap (λ (m : Machine ℕ). count (held_at s t) (all_cells m)) same-put,
        ))
        (hit-cases (held_at s t) (suc (held_at s t)))

    pub look-words : (none : ℕ) → look none t (words s) ≡ held_at s t
    look-words none = ap (look none t) (sym same-put) ∙ look-put none (held_at s t) t (words s) at

    pub look-view : cell s (held_at s t) ≡ look undefined t (view s)
    unfolding view
    look-view =
        sym
        (ap (λ (c : Cell). look c t (map_machine (cell s) (words s))) (sym (undefined-cell s)) ∙ map-look (cell s) undefined_word t (words s)
        ∙ ap (cell s) (look-words undefined_word))

-- a variable of the words is one of the view
pub in-view : (s : List ℕ) (t : Target) → Addressable s t ↔ AddressableIn t (view s)
unfolding view
in-view s t = in_map (cell s) t (words s)

-- what an operand is
module _ (s : List ℕ) (i : ℕ) (h : i < temporaries s) where
  operand-word : (none : ℕ) → get_or (words s).temporaries i none ≡ operand_at s i
  unfolding words
  operand-word none =
      let e : sbase s + lbase s + 2 + (ltop s - (lbase s + 1)) - 1 - i ≡ sbase s + ltop s - i = omega arith in
      get_or-downward s (sbase s + lbase s + 2) (ltop s - (lbase s + 1)) i none h ∙ rw e

  temporaries-long : i < length (words s).temporaries
  unfolding words
  temporaries-long = omega (arith, downward-length s (sbase s + lbase s + 2) (ltop s - (lbase s + 1)))

  pub operand-owner : 0 < count (operand_at s i) (owners s)
  operand-owner =
      let c : 0 < count (get_or (words s).temporaries i 0) (words s).temporaries = count-get_or (words s).temporaries i 0 temporaries-long in
      let e = operand-word 0 in
      omega (arith, cells_count (operand_at s i) (words s), rw e at c)

  pub operand-view : cell s (operand_at s i) ≡ get_or (view s).temporaries i undefined
  unfolding view
  operand-view =
      sym
      (ap (λ (c : Cell). get_or (map (cell s) (words s).temporaries) i c) (sym (undefined-cell s))
      ∙ get_or-map (cell s) (words s).temporaries i undefined_word ∙ ap (cell s) (operand-word undefined_word))
