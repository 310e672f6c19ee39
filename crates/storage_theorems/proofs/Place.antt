-- A new array, with one owner.
use Prim.Native.Nat.{ℕ, ◌+◌, ◌*◌, ◌/◌, ◌^◌, ◌<◌, ◌≤◌}
use mathlib.Core.Path.{◌≡◌, refl, sym, subst, ◌∙◌, ap}
use mathlib.Core.Bool.{false}
use mathlib.Core.List.{List, ◌∷◌}
use mathlib.Core.Logic.{◌⊎◌, inl, inr, ⊎_elim}
use native.Mathlib.Omega.{arith}
use lib.ListN.{get_or, length}
use borrow.Author.Tests.{eq-eqb, ne_eqb}
use Rattle.descriptor.specs.Fields.{array_word}
use Rattle.segment.specs.State.{sbase, blockptr}
use Rattle.segment.specs.Blocks.{count_at, rank_at, shape_at, elements_at, need}
use Rattle.storage.specs.Request.{request_at, request}
use Rattle.storage.specs.Arrays.{fill, place_at, place}
use Rattle.storage.specs.Heap.{hit, count, Heap}
use Rattle.storage.specs.Owned.{ArrayIn, Inside, Owned, Proper, OwnedStep}
use Rattle.storage_theorems.specs.Words.{Quiet, Leaves}
use Rattle.storage_theorems.specs.Request.{Served}
use Rattle.storage_theorems.proofs.Counts.{order, hit-cases, hit_same}
use Rattle.storage_theorems.proofs.Arrays.{array-inner, array-within}
use Rattle.storage_theorems.proofs.Placed.{placed-inner}
use Rattle.storage_theorems.proofs.Request.{served-at, request-theorem}
use Rattle.storage_theorems.specs.Place.{NewArray, Place}
use Rattle.storage_theorems.proofs.Cells.{cell-array, cell_same}
use Rattle.storage_theorems.proofs.Owners.{array-place}
use Rattle.storage_theorems.proofs.Gone.{leaves-second, leaves-value, leaves-inside, leaves_kept}
use Rattle.storage_theorems.proofs.Fill.{fill-length, fill-other, fill-second, fill-shape, fill-elements, fill-heap}

-- a new array, with one owner
module _ {s ws : List ℕ} (o : Owned s ws) (sh el : List ℕ) (ok : Proper sh el) (d : Served s o.blocks (need sh el)) where
  abbrev z : ℕ
  z = need sh el

  abbrev x : ℕ
  x = request_at s z

  abbrev s1 : List ℕ
  s1 = request s z

  abbrev s2 : List ℕ
  s2 = fill s1 x sh el

  b1 : blockptr s1 ≡ blockptr s
  b1 = d.leaves.quiet 4 (omega arith) (inl (omega (arith, o.heap.low)))

  new : ArrayIn (blockptr s) d.blocks x z
  new = (d.arrays x z).1 (inl (refl, refl))

  pub fresh-place : (8 ≤ blockptr s) × (blockptr s ≤ x) × (x + z + 3 ≤ sbase s1) × (sbase s1 ≤ length s1) × (length s1 ≤ 16384) × (length s1 ≡ length s) × (sbase s1 ≡ sbase s)
  fresh-place =
      let w = array-within s1 (blockptr s1) false d.blocks x z d.heap.walk (rw b1 new) in (
        o.heap.low,
        omega (arith, w, b1),
        omega (arith, w, d.heap.top),
        d.heap.room,
        d.heap.short,
        d.leaves.long,
        ap (λ (v : ℕ). v / 2 ^ 16) (d.leaves.quiet 0 (omega arith) (inl (omega (arith, o.heap.low)))),
      )

  -- nothing of the old arrays is written
  clear : (i : ℕ) → Quiet s o.blocks i → (i ≤ x) ⊎ (x + z ≤ i)
  clear i (inl h) = inl (omega (arith, h, fresh-place))
  clear i (inr (inl h)) = inr (omega (arith, h, fresh-place))
  clear i (inr (inr h)) = placed-inner s x z (blockptr s) false o.blocks d.blocks o.heap.walk d.placed i h

  left : Leaves s s2 o.blocks
  left = record {
    long = fill-length s1 x sh el ∙ d.leaves.long;
    base = ap (λ (v : ℕ). v / 2 ^ 16) (fill-other s1 x sh el 1 (inl (omega (arith, fresh-place)))) ∙ d.leaves.base;
    quiet = λ i n q. fill-other s1 x sh el i (clear i q) ∙ d.leaves.quiet i n q;
  }

  b2 : blockptr s2 ≡ blockptr s
  b2 = left.quiet 4 (omega arith) (inl (omega (arith, o.heap.low)))

  filled : (t' : List ℕ) × Heap s2 d.blocks t'
  filled = fill-heap x sh el d.heap (omega (arith, fresh-place)) (λ j p q. array-inner (blockptr s1) d.blocks x z j (rw b1 new) p q)

  second : get_or s2 (x + 1) 0 ≡ 1 * 2 ^ 16 + length sh
  second = fill-second s1 x sh el (omega (arith, fresh-place))

  shape : shape_at s2 x ≡ sh
  shape = fill-shape s1 x sh el (omega (arith, fresh-place)) (omega (arith, ok.rank))

  elems : elements_at s2 x ≡ el
  elems = fill-elements s1 x sh el (omega (arith, fresh-place)) (omega (arith, ok.rank)) ok.size

  new-inside : Inside s2 x z
  new-inside =
      let r : rank_at s2 x ≡ length sh = omega (arith, second, ok.rank) in
      record {
        clear = omega (arith, second, ok.rank);
        rank = rw r ok.rank.0;
        sized = rw (r, shape, ok.size);
        lengths = rw shape ok.lengths;
        scalars = rw elems ok.scalars;
      }

  unowned : count (array_word x) ws ≡ 0
  unowned =
      ⊎_elim (λ h. omega (arith, h))
      (λ h. let n = o.named x (omega (arith, fresh-place)) h in
      absurd (⊎_elim (λ q. omega (arith, q)) (λ q. omega (arith, q, array-place o x n.0 n.1)) (d.apart x n.0 n.1)))
      (order (count (array_word x) ws) 0)

  fresh-own : Owned s2 (array_word x ∷ ws)
  fresh-own = record {
    blocks = d.blocks;
    ring = filled.0;
    heap = filled.1;
    named = λ y l h. rw b2 (⊎_elim (λ e. let q : y ≡ x = omega (arith, e) in rw q (z, new))
        (λ e. let n = o.named y l (omega (arith, e, h)) in (n.0, (d.arrays y n.0).1 (inr n.1))) (hit-cases (array_word y) (array_word x)));
    counts = λ y v u. now-counts y v ((d.arrays y v).0 (rw b2 at u));
    inside = λ y v u. now-inside y v ((d.arrays y v).0 (rw b2 at u));
  }
    where
      now-counts : (y v : ℕ) → ((y ≡ x) × (v ≡ z)) ⊎ ArrayIn (blockptr s) o.blocks y v
          → (count_at s2 y ≡ count (array_word y) (array_word x ∷ ws)) × (0 < count (array_word y) (array_word x ∷ ws))
      now-counts y v (inl e) =
          subst (λ (i : ℕ). (count_at s2 i ≡ count (array_word i) (array_word x ∷ ws)) × (0 < count (array_word i) (array_word x ∷ ws))) (sym e.0)
          (omega (arith, second, unowned, hit_same (array_word x), ok.rank))
      now-counts y v (inr u) =
          let c = o.counts y v u in
          let q : hit (array_word y) (array_word x) ≡ 0 = ⊎_elim (λ e. absurd (omega (arith, unowned, c, ap (λ (m : ℕ). count m ws) e.0)))
          (λ e. e.1) (hit-cases (array_word y) (array_word x)) in
          rw (leaves-second o s2 o.blocks left y v u u) (omega (arith, c, q))

      now-inside : (y v : ℕ) → ((y ≡ x) × (v ≡ z)) ⊎ ArrayIn (blockptr s) o.blocks y v → Inside s2 y v
      now-inside y v (inl e) = rw (e.0, e.1) new-inside
      now-inside y v (inr u) = leaves-inside o s2 o.blocks left y v u u

  fresh_step : OwnedStep s ws s2 (array_word x ∷ ws)
  fresh_step = record {
    own = fresh-own;
    kept = leaves_kept left o.heap.low;
    same = λ w h k. cell_same s s2 w (λ y l e. let n = o.named y l (rw e at h) in leaves-value o s2 o.blocks left y n.0 n.1 n.1);
  }

  place_is : place s sh el ≡ s2
  unfolding place place_at
  place_is = simp (ne_eqb x 0 (served-at d o.heap.low))

  pub fresh : NewArray s ws sh el
  unfolding place_at
  fresh = record {
    unowned = unowned;
    step = rw place_is fresh_step;
    counted = rw place_is (omega (arith, second, ok.rank));
    shaped = rw place_is shape;
    filled = rw place_is elems;
    seen = rw place_is (cell-array s2 x (omega (arith, fresh-place)) ∙ rw (shape, elems));
  }

-- the theorem of placing
pub place-theorem : {s ws : List ℕ} (sh el : List ℕ) (o : Owned s ws) → Proper sh el → Place s ws sh el o
unfolding place_at place
place-theorem {s} {ws} sh el o ok =
    let r = request-theorem (need sh el) o.heap (omega (arith, ok.rank)) in
    record {
      found = r.found;
      none = λ h. simp (eq-eqb (request_at s (need sh el)) 0 h);
      new = λ h. fresh o sh el ok (r.served h);
    }
