-- A release that joins the free block before the array keeps the heap.
use Prim.Native.Nat.{ℕ, ◌+◌, ◌-◌, ◌/◌, ◌%◌, ◌^◌, ◌<◌, ◌≤◌}
use mathlib.Core.Path.{◌≡◌, sym, ◌∙◌, ap}
use mathlib.Core.Bool.{Bool, false}
use mathlib.Core.List.{List, ◌∷◌, ◌++◌}
use mathlib.Core.Logic.{◌≢◌, inl, inr, ⊎_elim}
use native.Mathlib.Omega.{arith}
use lib.ListN.{get_or, length}
use Rattle.segment.specs.State.{sbase, rover, blockptr}
use Rattle.segment.specs.Blocks.{free_at}
use Rattle.storage.specs.Release.{join_before}
use Rattle.storage.specs.Heap.{Block, Walk, over, frees, count, Links, Heap, free, array}
use Rattle.storage_theorems.specs.Words.{Quiet, Leaves}
use Rattle.storage_theorems.proofs.Walks.{over-le, walk-replace, walk_at}
use Rattle.storage_theorems.proofs.Counts.{hit-cases, hit_same, frees-append, over-append, frees-within, frees-either}
use Rattle.storage_theorems.proofs.Ring.{links-same}
use Rattle.storage_theorems.proofs.Fields.{set_prev_free-length, set_prev_free-other, set_prev_free-same, mark_free-length, mark_free-other, mark_free-first, mark_free-end}
use Rattle.storage_theorems.proofs.Inner.{inner-cases}
use Rattle.storage_theorems.proofs.Heaps.{walk-mark, heap-make}

module _ {s : List ℕ} {t : List ℕ} (xs : List Block) (m z k : ℕ) (ys : List Block) (g : Heap s (xs ++ free m ∷ array z k ∷ ys) t)
    (alone : free_at s (over (blockptr s) xs + m + (z + k)) ≡ false) where
  abbrev p : ℕ
  p = over (blockptr s) xs

  abbrev old : List Block
  old = xs ++ free m ∷ array z k ∷ ys

  abbrev new : List Block
  new = xs ++ free (m + (z + k)) ∷ ys

  abbrev after : List ℕ
  after = join_before s p (m + (z + k)) (p + m + (z + k))

  at : (q : Bool) × Walk s p q (free m ∷ array z k ∷ ys)
  at = walk_at s (blockptr s) false xs (free m ∷ array z k ∷ ys) g.walk

  place : (8 ≤ blockptr s) × (blockptr s ≤ p) × (3 ≤ m) × (3 ≤ z) × (p + m + (z + k) ≤ over (blockptr s) old) × (over (blockptr s) old + 3 ≤ length s) × (length s ≤ 16384)
  place = (
    g.low,
    over-le (blockptr s) xs,
    at.1.0.least,
    at.1.1.0.least,
    omega (arith, over-append (blockptr s) xs (free m ∷ array z k ∷ ys), over-le (p + m + (z + k)) ys),
    omega (arith, g.top, g.room),
    g.short,
  )

  after-length : length after ≡ length s
  unfolding join_before
  after-length = set_prev_free-length _ _ ∙ mark_free-length s _ _

  after-other : (i : ℕ) → (i ≢ p) × (i ≢ p + (m + (z + k)) - 1) × (i ≢ p + m + (z + k)) → get_or after i 0 ≡ get_or s i 0
  unfolding join_before
  after-other i h = set_prev_free-other _ _ i h.2 ∙ mark_free-other s _ _ i (h.0, h.1)

  after-walk : Walk after (blockptr s) false new
  unfolding join_before
  after-walk =
      walk-replace s after (blockptr s) false xs (free m ∷ array z k ∷ ys) (free (m + (z + k)) ∷ ys) g.walk
      (λ i l u. after-other i (omega (arith, place)))
      (λ q w. (
        record {
          alone = w.0.alone;
          least = omega (arith, place);
          first = set_prev_free-other _ _ _ (omega (arith, place)) ∙ mark_free-first s _ _ (omega (arith, place)) (omega (arith, place));
          end = set_prev_free-other _ _ _ (omega (arith, place)) ∙ mark_free-end s _ _ (omega (arith, place)) (omega (arith, place));
        },
        let e : p + (m + (z + k)) ≡ p + m + (z + k) = omega arith in
            rw e
            (walk-mark s after (p + m + (z + k)) ys w.1.1 alone (λ i l u. after-other i (omega (arith, place)))
            (set_prev_free-same _ _ (omega (arith, place, mark_free-length s p (m + (z + k))))
            ∙ ap (λ (v : ℕ). v % 2 ^ 30 + 2 ^ 30) (mark_free-other s _ _ _ (omega (arith, place))))
            (omega (arith, place, over-append (blockptr s) xs (free m ∷ array z k ∷ ys)))),
      ))

  member-same : (x : ℕ) → 0 < count x (over (blockptr s) old ∷ frees (blockptr s) old) → get_or after (x + 1) 0 ≡ get_or s (x + 1) 0
  member-same x c =
      ⊎_elim (λ e. after-other (x + 1) (omega (arith, place, e)))
      (λ e. ⊎_elim (λ l. after-other (x + 1) (omega (arith, place, l)))
      (λ l. ⊎_elim (λ o. after-other (x + 1) (omega (arith, place, o)))
      (λ o. after-other (x + 1) (omega (arith, place, frees-within s (p + m + (z + k)) false ys x at.1.1.1 (omega (arith, l, o)))))
      (hit-cases x p))
      (frees-either s (blockptr s) false xs (free m ∷ array z k ∷ ys) x g.walk (omega (arith, c, e))))
      (hit-cases x (over (blockptr s) old))

  after-count : (x : ℕ) → count x (frees (blockptr s) new) ≡ count x (frees (blockptr s) old)
  after-count x =
      let e : p + (m + (z + k)) ≡ p + m + (z + k) = omega arith in
      ap (count x) (frees-append (blockptr s) xs (free (m + (z + k)) ∷ ys) ∙ ap (λ (a : ℕ). frees (blockptr s) xs ++ p ∷ frees a ys) e ∙ sym
      (frees-append (blockptr s) xs (free m ∷ array z k ∷ ys)))

  pub before-rover : rover after ≡ rover s
  before-rover = ap (λ (w : ℕ). w % 2 ^ 16) (after-other 1 (omega (arith, place)))

  above : (i : ℕ) → over (blockptr s) old + 2 ≤ i → get_or after i 0 ≡ get_or s i 0
  above i h = after-other i (omega (arith, place))

  -- the ring is as it was, from any member
  pub before-links : (d : ℕ) (u : List ℕ) → Links s d u d
      → ((x : ℕ) → count x (d ∷ u) ≡ count x (over (blockptr s) old ∷ frees (blockptr s) old)) → Links after d u d
  before-links d u h c =
      links-same s after d u d h (λ x k. member-same x (omega (arith, k, c x))) (member-same d (omega (arith, c d, hit_same d)))

  pub before-heap : (t' : List ℕ) × Heap after new t'
  before-heap =
      let e : p + (m + (z + k)) ≡ p + m + (z + k) = omega arith in
      heap-make g after new after-length (after-other 0 (omega (arith, place))) (after-other 4 (omega (arith, place)))
      (above (sbase s - 1) (omega (arith, g.top))) after-walk
      (over-append (blockptr s) xs (free (m + (z + k)) ∷ ys) ∙ ap (λ (a : ℕ). over a ys) e ∙ sym
      (over-append (blockptr s) xs (free m ∷ array z k ∷ ys)))
      (rover s) t (before-links (rover s) t g.links g.once)
      (λ x. omega (arith, g.once x, after-count x))
      (rover s) before-rover (omega (arith, g.once (rover s), hit_same (rover s), after-count (rover s)))

  quiet_same : (i : ℕ) → i ≢ 1 → Quiet s new i → get_or after i 0 ≡ get_or s i 0
  quiet_same i n (inl h) = after-other i (omega (arith, place, h))
  quiet_same i n (inr (inl h)) = above i (omega (arith, g.top))
  quiet_same i n (inr (inr h)) =
      ⊎_elim (λ l. after-other i (omega (arith, place, l))) (λ l. after-other i (omega (arith, place, l)))
      (inner-cases (blockptr s) xs (m + (z + k)) ys i h)

  pub before-leaves : Leaves s after new
  before-leaves = record { long = after-length; base = ap (λ (w : ℕ). w / 2 ^ 16) (after-other 1 (omega (arith, place))); quiet = quiet_same }
