-- The frames of a segment and their chain: one turn of each, and what they are read off.
use Prim.Native.Nat.{ℕ, zero, suc, ◌+◌, ◌-◌, ◌/◌, ◌%◌, ◌^◌, ◌<◌, ◌≤◌}
use mathlib.Core.Path.{◌≡◌, refl, sym, ◌∙◌, ap, subst}
use mathlib.Core.List.{List, [], ◌∷◌}
use mathlib.Core.Logic.{inl, inr, ⊎_elim}
use native.Mathlib.Omega.{arith}
use lib.ListN.{get_or, length, drop, length-append}
use borrow.Author.Tests.{le-leb, lt-leb}
use Rattle.segment.specs.State.{sbase, ltop, lbase, blockptr, flags}
use Rattle.segment.specs.Stack.{last_lbase_at, code_word_at, downward}
use Rattle.storage.specs.Owned.{CellsKept}
use Rattle.segment.specs.Machine.{Frame, cells_of_frames, depth_of_frames}
use Rattle.segment.specs.View.{frames_from, words}
use Rattle.segment.proofs.Runs.{downward-length, part_same}
use Rattle.storage_theorems.proofs.Counts.{order}
use Rattle.storage_theorems.proofs.Walks.{Same}
use Rattle.storage_theorems.proofs.Steps.{downward-same}
use Rattle.effects.specs.Sound.{Chain, bottom, upon}

pub drop-downward : (s : List ℕ) (a m k : ℕ) → drop k (downward s a (m + k)) ≡ downward s a m
drop-downward s a m zero = let e : m + 0 ≡ m = omega arith in rw e
drop-downward s a m (suc k) = let e : m + suc k ≡ suc (m + k) = omega arith in rw e (drop-downward s a m k)

-- the frame at `base` by its second word, its cells from `start` on
abbrev pub frame : List ℕ → ℕ → ℕ → ℕ → ℕ → Frame ℕ
frame s code st start base = record { function = code / 2 ^ 16; pctr = code % 2 ^ 16; cells = downward s (st + start) (base - start) }

module _ (n : ℕ) (s : List ℕ) (base st last code : ℕ) (e0 : sbase s ≡ st) (e1 : get_or s (st + base) 0 ≡ last) (e2 : get_or s (st + base + 1) 0 ≡ code) where
  pub frames-bottom : base ≤ last → frames_from (suc n) s base ≡ frame s code st 0 base ∷ []
  unfolding frames_from
  frames-bottom h = rw (e0, e1, e2, le-leb base last h)

  pub frames-next : last < base → frames_from (suc n) s base ≡ frame s code st (last + 2) base ∷ frames_from n s last
  unfolding frames_from
  frames-next h = rw (e0, e1, e2, lt-leb base last h)

-- a frame and those below read nothing above its two words
pub frames-same : (n : ℕ) (s s' : List ℕ) (base : ℕ) → sbase s' ≡ sbase s → Same s s' (sbase s) (sbase s + base + 2) → frames_from n s' base ≡ frames_from n s base
unfolding frames_from
frames-same zero s s' base b e = refl
frames-same (suc n) s s' base b e =
    let l : get_or s' (sbase s + base) 0 ≡ last_lbase_at s base = e (sbase s + base) (omega arith) (omega arith) in
    let f : get_or s' (sbase s + base + 1) 0 ≡ code_word_at s base = e (sbase s + base + 1) (omega arith) (omega arith) in
    ⊎_elim
    (λ h. frames-bottom n s' base (sbase s) _ _ b l f h
    ∙ rw (downward-same s s' (sbase s + 0) (base - 0) (λ i p q. e i (omega arith) (omega arith)))
    (sym (frames-bottom n s base (sbase s) _ _ refl refl refl h)))
    (λ h. frames-next n s' base (sbase s) _ _ b l f h
    ∙ rw (
      downward-same s s' (sbase s + (last_lbase_at s base + 2)) (base - (last_lbase_at s base + 2)) (λ i p q. e i (omega arith) (omega arith)),
      frames-same n s s' (last_lbase_at s base) b (λ i p q. e i p (omega arith)),
    )
    (sym (frames-next n s base (sbase s) _ _ refl refl refl h)))
    (order base (last_lbase_at s base))

-- enough turns are as good as any more
pub frames-fuel : (n k : ℕ) (s : List ℕ) (base : ℕ) → base < n → base < k → frames_from n s base ≡ frames_from k s base
frames-fuel zero k s base h l = absurd (omega arith)
frames-fuel (suc n) zero s base h l = absurd (omega arith)
frames-fuel (suc n) (suc k) s base h l = go (λ q. frames-fuel n k s (last_lbase_at s base) (omega arith) (omega arith))
  where
    go : (last_lbase_at s base < base → frames_from n s (last_lbase_at s base) ≡ frames_from k s (last_lbase_at s base)) → frames_from (suc n) s base ≡ frames_from (suc k) s base
    go ih =
        ⊎_elim (λ q. frames-bottom n s base _ _ _ refl refl refl q ∙ sym (frames-bottom k s base _ _ _ refl refl refl q))
        (λ q. frames-next n s base _ _ _ refl refl refl q ∙ rw (ih q) (sym (frames-next k s base _ _ _ refl refl refl q)))
        (order base (last_lbase_at s base))

-- the chain reads nothing above a frame's first word
pub chain_same : {s : List ℕ} {base : ℕ} (s' : List ℕ) → Chain s base → sbase s' ≡ sbase s → Same s s' (sbase s) (sbase s + base + 1) → Chain s' base
chain_same {s} {base} s' (bottom q) b e =
    let l : last_lbase_at s' base ≡ last_lbase_at s base = rw b (e (sbase s + base) (omega arith) (omega arith)) in
    bottom {base = base} (l ∙ q)
chain_same {s} {base} s' (upon q c) b e =
    let l : last_lbase_at s' base ≡ last_lbase_at s base = rw b (e (sbase s + base) (omega arith) (omega arith)) in
    upon {base = base} (omega arith) (subst (Chain s') (sym l) (chain_same s' c b (λ i x y. e i x (omega arith))))

-- the words under a frame and its own two
pub depth_is : {s : List ℕ} {base : ℕ} → Chain s base → (n : ℕ) → base < n → depth_of_frames (frames_from n s base) ≡ base + 2
depth_is {s} {base} c zero h = absurd (omega arith)
depth_is {s} {base} (bottom q) (suc n) h =
    ap depth_of_frames (frames-bottom n s base _ _ _ refl refl refl (omega arith)) ∙ omega (arith, downward-length s (sbase s + 0) (base - 0))
depth_is {s} {base} (upon q c) (suc n) h =
    ap depth_of_frames (frames-next n s base _ _ _ refl refl refl (omega arith))
    ∙ omega (arith, depth_is {base = last_lbase_at s base} c n (omega arith), downward-length s (sbase s + (last_lbase_at s base + 2)) (base - (last_lbase_at s base + 2)))

-- the machine where the words of globals and frames stay
pub words_left : (s s' : List ℕ) → 8 ≤ blockptr s → sbase s' ≡ sbase s → lbase s' ≡ lbase s → Same s s' 4 (blockptr s)
    → Same s s' (sbase s) (sbase s + lbase s + 2)
    → words s' ≡ record {
      flags = flags s';
      temporaries = downward s' (sbase s + lbase s + 2) (ltop s' - (lbase s + 1));
      frames = (words s).frames;
      globals = (words s).globals;
    }
unfolding words
words_left s s' low base frame globals frames =
    let start : blockptr s' ≡ blockptr s = globals 4 (omega arith) (omega arith) in
    rw (
      base,
      frame,
      start,
      part_same s s' 8 (blockptr s - 8) (λ i p q. globals i (omega arith) (omega arith)),
      frames-same (suc (lbase s)) s s' (lbase s) base frames,
    )

-- a step in array storage leaves the cells' words
pub words-kept : (s s' : List ℕ) → CellsKept s s' → 8 ≤ blockptr s → blockptr s ≤ sbase s → words s' ≡ words s
unfolding words
words-kept s s' h l k =
    let f : flags s' ≡ flags s = h.rest 2 (omega arith) (inl (omega arith)) in
    words_left s s' l (ap (λ (w : ℕ). w / 2 ^ 16) h.first) h.base (λ i p q. h.rest i (omega arith) (inl (omega arith)))
    (λ i p q. h.rest i (omega arith) (inr p))
    ∙ rw (f, h.first, downward-same s s' (sbase s + lbase s + 2) (ltop s - (lbase s + 1)) (λ i p q. h.rest i (omega arith) (inr (omega arith))))

-- there are fewer cells than words
frames-few : (n : ℕ) (s : List ℕ) (base : ℕ) → length (cells_of_frames (frames_from n s base)) ≤ base
unfolding frames_from
frames-few zero s base = omega arith
frames-few (suc n) s base =
    ⊎_elim
    (λ h. rw (frames-bottom n s base _ _ _ refl refl refl h)
    (omega (arith, length-append (downward s (sbase s + 0) (base - 0)) [], downward-length s (sbase s + 0) (base - 0))))
    (λ h. rw (frames-next n s base _ _ _ refl refl refl h)
    (omega (
      arith,
      h,
      frames-few n s (last_lbase_at s base),
      length-append (downward s (sbase s + (last_lbase_at s base + 2)) (base - (last_lbase_at s base + 2))) (cells_of_frames (frames_from n s (last_lbase_at s base))),
      downward-length s (sbase s + (last_lbase_at s base + 2)) (base - (last_lbase_at s base + 2)),
    )))
    (order base (last_lbase_at s base))

pub frames-length : (s : List ℕ) → length (cells_of_frames (words s).frames) ≤ lbase s
unfolding words
frames-length s = frames-few (suc (lbase s)) s (lbase s)
