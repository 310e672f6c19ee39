-- The words of a new array.
use Prim.Native.Nat.{ℕ, suc, ◌+◌, ◌*◌, ◌^◌, ◌<◌, ◌≤◌}
use mathlib.Core.Path.{◌≡◌, refl, ◌∙◌}
use mathlib.Core.List.{List, [], ◌∷◌}
use mathlib.Core.Logic.{◌≢◌, ◌⊎◌, inl, inr, ⊎_elim}
use native.Mathlib.Omega.{arith}
use lib.ListN.{get_or, set, length, length-set}
use lib.Seq.{get_or-set_same, get_or-set_other, sets, length-sets}
use Rattle.segment.specs.State.{blockptr}
use Rattle.segment.specs.Blocks.{rank_at, part, product, shape_at, elements_at, need}
use Rattle.storage.specs.Arrays.{fill}
use Rattle.storage.specs.Heap.{Block, Heap}
use Rattle.segment.proofs.Copies.{sets-other}
use Rattle.segment.proofs.Runs.{part_same}
use Rattle.storage.proofs.Written.{head-other}
use Rattle.storage_theorems.specs.Words.{Inner}
use Rattle.storage_theorems.proofs.Stores.{store-heap}

-- runs of stores
pub sets-part : (vs s : List ℕ) (i : ℕ) → i + length vs ≤ length s → part (sets s i vs) i (length vs) ≡ vs
sets-part [] s i h = refl
sets-part (v ∷ vs) s i h =
    let e : i + 1 ≡ suc i = omega arith in
    let l : i < length s = omega arith in
    let f : get_or (sets (set s i v) (suc i) vs) i 0 ≡ v = sets-other vs (set s i v) (suc i) i (inl (omega arith)) ∙ rw get_or-set_same in
    let r : part (sets (set s i v) (suc i) vs) (suc i) (length vs) ≡ vs = sets-part vs (set s i v) (suc i) (omega (arith, length-set s i v)) in
    rw (e, f, r)

-- stores to words of arrays but their first keep the heap
pub sets-heap : (vs : List ℕ) {s : List ℕ} {bs : List Block} {t : List ℕ} (i : ℕ) → Heap s bs t → 8 ≤ i
    → ((j : ℕ) → i ≤ j → j < i + length vs → Inner (blockptr s) bs j) → (t' : List ℕ) × Heap (sets s i vs) bs t'
sets-heap [] {t = t} i g l h = (t, g)
sets-heap (v ∷ vs) {s} {bs} i g l h =
    let r = store-heap g i v (h i (omega arith) (omega arith)) in
    let n : 4 ≢ i = omega arith in
    let b : blockptr (set s i v) ≡ blockptr s = rw get_or-set_other in
    sets-heap vs (suc i) r.1 (omega arith) (λ j p q. rw b (h j (omega arith) (omega arith)))

module _ (s : List ℕ) (x : ℕ) (sh el : List ℕ) where
  pub fill-length : length (fill s x sh el) ≡ length s
  unfolding fill
  fill-length = length-sets _ _ el ∙ length-sets _ _ sh ∙ length-set s (x + 1) (1 * 2 ^ 16 + length sh)

  pub fill-other : (i : ℕ) → (i ≤ x) ⊎ (x + need sh el ≤ i) → get_or (fill s x sh el) i 0 ≡ get_or s i 0
  unfolding fill
  fill-other i h =
      sets-other el _ (x + 2 + length sh) i (⊎_elim (λ q. inl (omega (arith, q))) (λ q. inr (omega (arith, q))) h)
      ∙ head-other s x sh i (⊎_elim (λ q. inl (omega (arith, q))) (λ q. inr (omega (arith, q))) h)

  module _ (fits : x + need sh el ≤ length s) where
    pub fill-second : get_or (fill s x sh el) (x + 1) 0 ≡ 1 * 2 ^ 16 + length sh
    unfolding fill
    fill-second =
        let l : x + 1 < length s = omega arith in
        sets-other el _ (x + 2 + length sh) (x + 1) (inl (omega arith)) ∙ sets-other sh _ (x + 2) (x + 1) (inl (omega arith)) ∙ rw get_or-set_same

    pub fill-shape : length sh ≤ 15 → shape_at (fill s x sh el) x ≡ sh
    unfolding shape_at fill
    fill-shape l =
        let r : rank_at (fill s x sh el) x ≡ length sh = omega (arith, fill-second) in
        rw r go
      where
        go : part (fill s x sh el) (x + 2) (length sh) ≡ sh
        go =
            part_same (sets (set s (x + 1) (1 * 2 ^ 16 + length sh)) (x + 2) sh) _ (x + 2) (length sh)
            (λ i p q. sets-other el _ (x + 2 + length sh) i (inl q))
            ∙ sets-part sh (set s (x + 1) (1 * 2 ^ 16 + length sh)) (x + 2) (omega (arith, length-set s (x + 1) (1 * 2 ^ 16 + length sh)))

    pub fill-elements : length sh ≤ 15 → product sh ≡ length el → elements_at (fill s x sh el) x ≡ el
    unfolding elements_at fill
    fill-elements l e =
        let r : rank_at (fill s x sh el) x ≡ length sh = omega (arith, fill-second) in
        rw (r, fill-shape l, e)
        (sets-part el _ (x + 2 + length sh) (omega
        (arith, length-sets (set s (x + 1) (1 * 2 ^ 16 + length sh)) (x + 2) sh, length-set s (x + 1) (1 * 2 ^ 16 + length sh))))

-- the words of a new array keep the heap
pub fill-heap : {s : List ℕ} {bs : List Block} {t : List ℕ} (x : ℕ) (sh el : List ℕ) → Heap s bs t → 8 ≤ x
    → ((j : ℕ) → x < j → j < x + need sh el → Inner (blockptr s) bs j) → (t' : List ℕ) × Heap (fill s x sh el) bs t'
unfolding fill
fill-heap {s} {bs} x sh el g l h =
    let r = store-heap g (x + 1) (1 * 2 ^ 16 + length sh) (h (x + 1) (omega arith) (omega arith)) in
    let n : 4 ≢ x + 1 = omega arith in
    let b : blockptr (set s (x + 1) (1 * 2 ^ 16 + length sh)) ≡ blockptr s = rw get_or-set_other in
    let r2 = sets-heap sh (x + 2) r.1 (omega arith) (λ j p q. rw b (h j (omega arith) (omega arith))) in
    let b2 : blockptr (sets (set s (x + 1) (1 * 2 ^ 16 + length sh)) (x + 2) sh) ≡ blockptr s = sets-other sh _ (x + 2) 4 (inl (omega arith)) ∙ b in
    sets-heap el (x + 2 + length sh) r2.1 (omega arith) (λ j p q. rw b2 (h j (omega arith) (omega arith)))
