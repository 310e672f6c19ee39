-- A scalar written over an element of an array.
use Prim.Native.Nat.{ℕ, zero, suc, ◌+◌, ◌/◌, ◌%◌, ◌^◌, ◌<◌, ◌≤◌}
use mathlib.Core.Path.{◌≡◌, sym, subst, ◌∙◌, ap}
use mathlib.Core.Bool.{true, false}
use mathlib.Core.List.{List, [], ◌∷◌}
use mathlib.Core.Logic.{◌≢◌, ◌⊎◌, inl, inr, ⊎_elim}
use native.Mathlib.Omega.{arith}
use lib.ListN.{get_or, set, length, length-set}
use lib.Seq.{get_or-set_same, get_or-set_other}
use Rattle.descriptor.specs.Fields.{array_word}
use Rattle.descriptor.specs.Kinds.{is_scalar}
use Rattle.segment.specs.State.{sbase, blockptr}
use Rattle.segment.specs.Blocks.{count_at, rank_at, part, product, shape_at, elements_at}
use Rattle.storage.specs.Heap.{count}
use Rattle.segment.specs.Cells.{cell, value}
use Rattle.storage.specs.Owned.{ArrayIn, Inside, Owned, CellsKept}
use Rattle.segment.proofs.Runs.{part_same}
use Rattle.storage_theorems.specs.Words.{Inner}
use Rattle.storage_theorems.proofs.Counts.{hit-cases}
use Rattle.storage_theorems.proofs.Arrays.{array-inner, array_apart}
use Rattle.storage_theorems.proofs.Stores.{store-heap}
use Rattle.storage_theorems.specs.Element.{set_element, ElementSet}
use Rattle.storage_theorems.proofs.Cells.{value_same, inside-same, cell-array, cell_same}
use Rattle.storage_theorems.proofs.Owners.{array-place}

-- a store among words that are read as a list
pub part-set : (s : List ℕ) (a n j w : ℕ) → j < n → a + n ≤ length s → part (set s (a + j) w) a n ≡ set (part s a n) j w
part-set s a zero j w h l = absurd (omega arith)
part-set s a (suc n) zero w h l =
    let e : a + 0 ≡ a = omega arith in
    let k : a < length s = omega arith in
    subst (λ (i : ℕ). part (set s i w) a (suc n) ≡ set (part s a (suc n)) 0 w) (sym e)
    (rw (get_or-set_same, part_same s (set s a w) (a + 1) n (λ i p q. let d : i ≢ a = omega arith in rw get_or-set_other)))
part-set s a (suc n) (suc j) w h l =
    let d : a ≢ a + suc j = omega arith in
    let e : a + suc j ≡ a + 1 + j = omega arith in
    let r : part (set s (a + suc j) w) (a + 1) n ≡ set (part s (a + 1) n) j w = rw e (part-set s (a + 1) n j w (omega arith) (omega arith)) in
    rw (get_or-set_other, r)

count-in-set : (w : ℕ) (l : List ℕ) (k v : ℕ) → 0 < count w (set l k v) → (w ≡ v) ⊎ (0 < count w l)
count-in-set w [] zero v h = absurd (omega arith)
count-in-set w [] (suc k) v h = absurd (omega arith)
count-in-set w (y ∷ l) zero v h = ⊎_elim (λ e. inl e.0) (λ e. inr (omega (arith, e, h))) (hit-cases w v)
count-in-set w (y ∷ l) (suc k) v h =
    ⊎_elim (λ e. inr (omega (arith, e))) (λ e. ⊎_elim (λ q. inl q) (λ q. inr (omega (arith, q))) (count-in-set w l k v (omega (arith, e, h))))
    (hit-cases w y)

-- array storage after a store to the `k`-th element of the array at `x`
module _ {s ws : List ℕ} (o : Owned s ws) (x z : ℕ) (u : ArrayIn (blockptr s) o.blocks x z) (k v : ℕ) (in-range : k < product (shape_at s x))
    (ok : is_scalar v ≡ true) where
  abbrev i : ℕ
  i = x + 2 + rank_at s x + k

  abbrev s' : List ℕ
  s' = set_element s x k v

  room : (8 ≤ blockptr s) × (blockptr s ≤ x) × (3 ≤ z) × (x + z + 3 ≤ sbase s) × (sbase s ≤ length s) × (length s ≤ 16384)
  room = array-place o x z u

  sized : z ≡ 2 + rank_at s x + product (shape_at s x)
  sized = (o.inside x z u).sized

  other : (j : ℕ) → j ≢ i → get_or s' j 0 ≡ get_or s j 0
  other j h = rw get_or-set_other

  bp : blockptr s' ≡ blockptr s
  bp = other 4 (omega (arith, room))

  apart : (y n : ℕ) → ArrayIn (blockptr s) o.blocks y n → y ≢ x → (j : ℕ) → y < j → j < y + n → get_or s' j 0 ≡ get_or s j 0
  apart y n h d j l m =
      ⊎_elim (λ e. absurd (d (omega (arith, e)))) (⊎_elim (λ e. other j (omega (arith, e, sized, in-range)))
      (λ e. other j (omega (arith, e, sized, in-range))))
      (array_apart s (blockptr s) false o.blocks x z y n o.heap.walk u h)

  second : (y n : ℕ) → ArrayIn (blockptr s) o.blocks y n → get_or s' (y + 1) 0 ≡ get_or s (y + 1) 0
  second y n h =
      ⊎_elim (λ e. other (y + 1) (omega (arith, e))) (λ e. apart y n h e.0 (y + 1) (omega arith) (omega (arith, array-place o y n h)))
      (hit-cases y x)

  rank-x : rank_at s' x ≡ rank_at s x
  rank-x = ap (λ (m : ℕ). m % 2 ^ 4) (second x z u)

  shape-x : shape_at s' x ≡ shape_at s x
  unfolding shape_at
  shape-x = rw rank-x (part_same s s' (x + 2) (rank_at s x) (λ j l m. other j (omega arith)))

  elements-x : elements_at s' x ≡ set (elements_at s x) k v
  unfolding elements_at
  elements-x = rw (rank-x, shape-x) (part-set s (x + 2 + rank_at s x) (product (shape_at s x)) k v in-range (omega (arith, sized, room)))

  inside-x : Inside s' x z
  inside-x =
      let h = o.inside x z u in
      record {
        clear = omega (arith, second x z u, h.clear);
        rank = rw rank-x h.rank;
        sized = rw (rank-x, shape-x) h.sized;
        lengths = rw shape-x h.lengths;
        scalars = rw elements-x (λ w c. ⊎_elim (λ e. rw e ok) (λ e. h.scalars w e) (count-in-set w (elements_at s x) k v c));
      }

  own_x : Owned s' ws
  own_x = record {
    blocks = o.blocks;
    ring = (store-heap o.heap i v inn).0;
    heap = (store-heap o.heap i v inn).1;
    named = λ y l h. rw bp (o.named y l h);
    counts = λ y n h. now-counts y n (rw bp at h);
    inside = λ y n h. now-inside y n (rw bp at h);
  }
    where
      inn : Inner (blockptr s) o.blocks i
      inn = array-inner (blockptr s) o.blocks x z i u (omega arith) (omega (arith, sized, in-range))

      now-counts : (y n : ℕ) → ArrayIn (blockptr s) o.blocks y n → (count_at s' y ≡ count (array_word y) ws) × (0 < count (array_word y) ws)
      now-counts y n h = rw (second y n h) (o.counts y n h)

      now-inside : (y n : ℕ) → ArrayIn (blockptr s) o.blocks y n → Inside s' y n
      now-inside y n h =
          ⊎_elim (λ e. ⊎_elim (λ q. rw (e.0, ← q.1) inside-x)
          (⊎_elim (λ q. absurd (omega (arith, q, e, room))) (λ q. absurd (omega (arith, q, e, array-place o y n h))))
          (array_apart s (blockptr s) false o.blocks x z y n o.heap.walk u h))
          (λ e. inside-same s s' y n (o.inside y n h) (ap (λ (m : ℕ). m % 2 ^ 16) (second y n h)) (λ j l m. apart y n h e.0 j (omega arith) m))
          (hit-cases y x)

  kept-x : CellsKept s s'
  kept-x = record {
    long = length-set s i v;
    first = other 0 (omega (arith, room));
    base = ap (λ (m : ℕ). m / 2 ^ 16) (other 1 (omega (arith, room)));
    rest = λ j l h. ⊎_elim (λ q. other j (omega (arith, room, sized, in-range, q))) (λ q. other j (omega (arith, room, sized, in-range, q))) h;
  }

  others-x : (w : ℕ) → w ≢ array_word x → 0 < count w ws → cell s' w ≡ cell s w
  others-x w n h =
      cell_same s s' w (λ y l e. let r = o.named y l (rw e at h) in
      let d : y ≢ x = λ q. n (e ∙ ap array_word q) in
      value_same s s' y r.0 (o.inside y r.0 r.1) (ap (λ (m : ℕ). m % 2 ^ 16) (second y r.0 r.1))
      (λ j a b. apart y r.0 r.1 d j (omega arith) b))

  this-x : cell s' (array_word x) ≡ value (shape_at s x) (set (elements_at s x) k v)
  this-x = cell-array s' x (omega (arith, room)) ∙ rw (shape-x, elements-x)

  pub element-theorem : ElementSet s ws x k v
  element-theorem = record { own = own_x; kept = kept-x; others = others-x; this = this-x }
