-- Every word of array storage lies in exactly one block: the theorem of specs/Tiling.
use Prim.Native.Nat.{ℕ, ◌+◌, ◌<◌, ◌≤◌}
use mathlib.Core.Path.{◌≡◌, refl}
use mathlib.Core.Bool.{Bool, false}
use mathlib.Core.List.{List, [], ◌∷◌}
use mathlib.Core.Logic.{◌⊎◌, inl, inr, ⊎_elim}
use native.Mathlib.Omega.{arith}
use Rattle.segment.specs.State.{blockptr}
use Rattle.storage.specs.Heap.{Block, span, is_free, Walk, over, Heap, free, array}
use Rattle.storage_theorems.specs.Words.{Extent}
use Rattle.storage_theorems.specs.Tiling.{Tiling}
use Rattle.storage_theorems.proofs.Counts.{order}
use Rattle.storage_theorems.proofs.Arrays.{array_apart}

-- a block of the walk is not empty, and lies between where the walk starts and SBASE
extent-within : (s : List ℕ) (a : ℕ) (p : Bool) (bs : List Block) (x n : ℕ) → Walk s a p bs → Extent a bs x n → (a ≤ x) × (3 ≤ n)
extent-within s a p [] x n w h = omega arith
extent-within s a p (free m ∷ bs) x n w (inl h) = omega (arith, w.0.least)
extent-within s a p (array m k ∷ bs) x n w (inl h) = omega (arith, w.0.least)
extent-within s a p (b ∷ bs) x n w (inr h) = omega (arith, extent-within s (a + span b) (is_free b) bs x n w.1 h)

-- two blocks are the same, or one ends before the other starts
pub extent-apart : (s : List ℕ) (a : ℕ) (p : Bool) (bs : List Block) (x n y m : ℕ) → Walk s a p bs → Extent a bs x n → Extent a bs y m
    → ((y ≡ x) × (m ≡ n)) ⊎ ((x + n ≤ y) ⊎ (y + m ≤ x))
extent-apart s a p [] x n y m w h k = inl (omega arith)
extent-apart s a p (b ∷ bs) x n y m w (inl h) (inl k) = inl (omega (arith, h, k))
extent-apart s a p (b ∷ bs) x n y m w (inl h) (inr k) = inr (inl (omega (arith, h, extent-within s (a + span b) (is_free b) bs y m w.1 k)))
extent-apart s a p (b ∷ bs) x n y m w (inr h) (inl k) = inr (inr (omega (arith, k, extent-within s (a + span b) (is_free b) bs x n w.1 h)))
extent-apart s a p (b ∷ bs) x n y m w (inr h) (inr k) = extent-apart s (a + span b) (is_free b) bs x n y m w.1 h k

-- a word from the walk's start up to SBASE is some block's
extent-of : (a : ℕ) (bs : List Block) (i : ℕ) → a ≤ i → i < over a bs + 3 → (x : ℕ) × (n : ℕ) × Extent a bs x n × ((x ≤ i) × (i < x + n))
extent-of a [] i l u = (a, 3, (refl, refl), (l, u))
extent-of a (b ∷ bs) i l u =
    ⊎_elim (λ h. let r = extent-of (a + span b) bs i h u in (r.0, r.1, inr r.2, r.3))
    (λ h. (a, span b, inl (refl, refl), (l, h))) (order (a + span b) i)

pub tiling-theorem : {s : List ℕ} {bs : List Block} {t : List ℕ} → Heap s bs t → Tiling s bs
tiling-theorem {s} {bs} g = record {
  apart =
      λ x z y v i h k d p q. ⊎_elim (λ (e : (x ≡ y) × (z ≡ v)). d e.0)
      (⊎_elim (λ (e : x + z ≤ y). omega (arith, e, p, q)) (λ (e : y + v ≤ x). omega (arith, e, p, q)))
      (array_apart s (blockptr s) false bs x z y v g.walk h k);
  holder = λ i l u. let r = extent-of (blockptr s) bs i l (omega (arith, g.top)) in record {
    x = r.0;
    n = r.1;
    block = r.2;
    holds = r.3;
    only =
        λ y m h b c. ⊎_elim (λ (e : (y ≡ r.0) × (m ≡ r.1)). e)
        (⊎_elim (λ (e : r.0 + r.1 ≤ y). absurd (omega (arith, e, r.3))) (λ (e : y + m ≤ r.0). absurd (omega (arith, e, r.3))))
        (extent-apart s (blockptr s) false bs r.0 r.1 y m g.walk r.2 h);
  };
}
