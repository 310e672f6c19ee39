-- The words and the arrays after a block was freed.
use Prim.Native.Nat.{ℕ, ◌+◌, ◌<◌, ◌≤◌}
use mathlib.Core.Path.{◌≡◌}
use mathlib.Core.Bool.{Bool, true, false}
use mathlib.Core.List.{List, [], ◌∷◌, ◌++◌}
use mathlib.Core.Logic.{◌↔◌, ◌≢◌, ◌⊎◌, inl, inr, ⊎_elim}
use native.Mathlib.Omega.{arith}
use Rattle.storage.specs.Heap.{Block, span, Walk, over, free, array}
use Rattle.storage.specs.Owned.{ArrayIn}
use Rattle.storage_theorems.specs.Words.{FreeWord}
use Rattle.storage_theorems.specs.Release.{Freed, joins_both, joins_before, joins_after, joins_none, beyond}
use Rattle.storage_theorems.proofs.Counts.{order}
use Rattle.storage_theorems.proofs.Inner.{free_more}
use Rattle.storage_theorems.proofs.Arrays.{array-within}

pub freed-further : (x z k a : ℕ) (xs bs cs : List Block) → Freed x z k (over a xs) bs cs → Freed x z k a (xs ++ bs) (xs ++ cs)
freed-further x z k a [] bs cs h = h
freed-further x z k a (b ∷ xs) bs cs h = beyond (freed-further x z k (a + span b) xs bs cs h)

freed-above : (x z k a : ℕ) (bs cs : List Block) → Freed x z k a bs cs → a ≤ x
freed-above x z k a bs cs (joins_both e) = omega arith
freed-above x z k a bs cs (joins_before e) = omega arith
freed-above x z k a bs cs (joins_after e) = omega arith
freed-above x z k a bs cs (joins_none e) = omega arith
freed-above x z k a bs cs (beyond {b = b} {old = ys} {blocks = us} h) = omega (arith, freed-above x z k (a + span b) ys us h)

-- a number below a bound, within the next `n`, or behind those
zone : (i b n : ℕ) → (i < b) ⊎ (((b ≤ i) × (i < b + n)) ⊎ (b + n ≤ i))
zone i b n = ⊎_elim (λ l. ⊎_elim (λ u. inr (inr u)) (λ u. inr (inl (l, u))) (order (b + n) i)) (λ l. inl l) (order b i)

-- exactly the words of the array become free
pub freed-words : (x z k a : ℕ) (bs cs : List Block) → Freed x z k a bs cs → (i : ℕ)
    → FreeWord a cs i ↔ (FreeWord a bs i ⊎ ((x ≤ i) × (i < x + (z + k))))
freed-words x z k a _ _ (joins_both {m = m} {n = n} {blocks = bs} e) i = (to, from)
  where
    q : a + m + (z + k) + n ≡ a + (m + (z + k) + n)
    q = omega arith

    to : FreeWord a (free (m + (z + k) + n) ∷ bs) i → FreeWord a (free m ∷ array z k ∷ free n ∷ bs) i ⊎ ((x ≤ i) × (i < x + (z + k)))
    to (inl h) =
        ⊎_elim (λ u. inl (inl (omega (arith, u, h)))) (⊎_elim (λ u. inr (omega (arith, u, e))) (λ u. inl (inr (inl (omega (arith, u, h))))))
        (zone i (a + m) (z + k))
    to (inr h) = inl (inr (inr (rw q h)))

    from : FreeWord a (free m ∷ array z k ∷ free n ∷ bs) i ⊎ ((x ≤ i) × (i < x + (z + k))) → FreeWord a (free (m + (z + k) + n) ∷ bs) i
    from (inl (inl h)) = inl (omega (arith, h))
    from (inl (inr (inl h))) = inl (omega (arith, h))
    from (inl (inr (inr h))) = inr (rw q at h)
    from (inr h) = inl (omega (arith, h, e))
freed-words x z k a _ _ (joins_before {m = m} {blocks = bs} e) i = (to, from)
  where
    q : a + m + (z + k) ≡ a + (m + (z + k))
    q = omega arith

    to : FreeWord a (free (m + (z + k)) ∷ bs) i → FreeWord a (free m ∷ array z k ∷ bs) i ⊎ ((x ≤ i) × (i < x + (z + k)))
    to (inl h) =
        ⊎_elim (λ u. inl (inl (omega (arith, u, h)))) (⊎_elim (λ u. inr (omega (arith, u, e))) (λ u. absurd (omega (arith, u, h))))
        (zone i (a + m) (z + k))
    to (inr h) = inl (inr (rw q h))

    from : FreeWord a (free m ∷ array z k ∷ bs) i ⊎ ((x ≤ i) × (i < x + (z + k))) → FreeWord a (free (m + (z + k)) ∷ bs) i
    from (inl (inl h)) = inl (omega (arith, h))
    from (inl (inr h)) = inr (rw q at h)
    from (inr h) = inl (omega (arith, h, e))
freed-words x z k a _ _ (joins_after {n = n} {blocks = bs} e) i = (to, from)
  where
    q : a + (z + k) + n ≡ a + (z + k + n)
    q = omega arith

    to : FreeWord a (free (z + k + n) ∷ bs) i → FreeWord a (array z k ∷ free n ∷ bs) i ⊎ ((x ≤ i) × (i < x + (z + k)))
    to (inl h) =
        ⊎_elim (λ u. absurd (omega (arith, u, h))) (⊎_elim (λ u. inr (omega (arith, u, e))) (λ u. inl (inl (omega (arith, u, h))))) (zone i a (z + k))
    to (inr h) = inl (inr (rw q h))

    from : FreeWord a (array z k ∷ free n ∷ bs) i ⊎ ((x ≤ i) × (i < x + (z + k))) → FreeWord a (free (z + k + n) ∷ bs) i
    from (inl (inl h)) = inl (omega (arith, h))
    from (inl (inr h)) = inr (rw q at h)
    from (inr h) = inl (omega (arith, h, e))
freed-words x z k a _ _ (joins_none {blocks = bs} e) i = (to, from)
  where
    to : FreeWord a (free (z + k) ∷ bs) i → FreeWord a (array z k ∷ bs) i ⊎ ((x ≤ i) × (i < x + (z + k)))
    to (inl h) = inr (omega (arith, h, e))
    to (inr h) = inl h

    from : FreeWord a (array z k ∷ bs) i ⊎ ((x ≤ i) × (i < x + (z + k))) → FreeWord a (free (z + k) ∷ bs) i
    from (inl h) = inr h
    from (inr h) = inl (omega (arith, h, e))
freed-words x z k a _ _ (beyond {b = array n j} h) i = freed-words x z k (a + (n + j)) _ _ h i
freed-words x z k a _ _ (beyond {b = free n} {old = bs} {blocks = cs} h) i = free_more a n bs cs i _ (freed-words x z k (a + n) bs cs h i)

-- the arrays are those that were, but for the one at `x`
pub freed-rest : (x z k a : ℕ) (bs cs : List Block) → Freed x z k a bs cs → (y v : ℕ) → ArrayIn a bs y v → y ≢ x → ArrayIn a cs y v
freed-rest x z k a _ _ (joins_both {m = m} {n = n} e) y v (inl h) d = absurd (d (omega (arith, h, e)))
freed-rest x z k a _ _ (joins_both {m = m} {n = n} e) y v (inr h) d = let q : a + m + (z + k) + n ≡ a + (m + (z + k) + n) = omega arith in rw q at h
freed-rest x z k a _ _ (joins_before {m = m} e) y v (inl h) d = absurd (d (omega (arith, h, e)))
freed-rest x z k a _ _ (joins_before {m = m} e) y v (inr h) d = let q : a + m + (z + k) ≡ a + (m + (z + k)) = omega arith in rw q at h
freed-rest x z k a _ _ (joins_after {n = n} e) y v (inl h) d = absurd (d (omega (arith, h, e)))
freed-rest x z k a _ _ (joins_after {n = n} e) y v (inr h) d = let q : a + (z + k) + n ≡ a + (z + k + n) = omega arith in rw q at h
freed-rest x z k a _ _ (joins_none e) y v (inl h) d = absurd (d (omega (arith, h, e)))
freed-rest x z k a _ _ (joins_none e) y v (inr h) d = h
freed-rest x z k a _ _ (beyond {b = free n} f) y v h d = freed-rest x z k (a + n) _ _ f y v h d
freed-rest x z k a _ _ (beyond {b = array n j} f) y v (inl h) d = inl h
freed-rest x z k a _ _ (beyond {b = array n j} f) y v (inr h) d = inr (freed-rest x z k (a + (n + j)) _ _ f y v h d)

pub freed-back : (s : List ℕ) (x z k a : ℕ) (p : Bool) (bs cs : List Block) → Walk s a p bs → Freed x z k a bs cs → (y v : ℕ) → ArrayIn a cs y v
    → ArrayIn a bs y v × (y ≢ x)
freed-back s x z k a p _ _ w (joins_both {m = m} {n = n} {blocks = bs} e) y v h =
    let q : a + (m + (z + k) + n) ≡ a + m + (z + k) + n = omega arith in
    let h' : ArrayIn (a + m + (z + k) + n) bs y v = rw q at h in
    (inr h', omega (arith, e, w.1.0.least, array-within s (a + m + (z + k) + n) true bs y v w.1.1.1 h'))
freed-back s x z k a p _ _ w (joins_before {m = m} {blocks = bs} e) y v h =
    let q : a + (m + (z + k)) ≡ a + m + (z + k) = omega arith in
    let h' : ArrayIn (a + m + (z + k)) bs y v = rw q at h in
    (inr h', omega (arith, e, w.1.0.least, array-within s (a + m + (z + k)) false bs y v w.1.1 h'))
freed-back s x z k a p _ _ w (joins_after {n = n} {blocks = bs} e) y v h =
    let q : a + (z + k + n) ≡ a + (z + k) + n = omega arith in
    let h' : ArrayIn (a + (z + k) + n) bs y v = rw q at h in
    (inr h', omega (arith, e, w.0.least, array-within s (a + (z + k) + n) true bs y v w.1.1 h'))
freed-back s x z k a p _ _ w (joins_none {blocks = bs} e) y v h =
    (inr h, omega (arith, e, w.0.least, array-within s (a + (z + k)) false bs y v w.1 h))
freed-back s x z k a p _ _ w (beyond {b = free n} f) y v h = freed-back s x z k (a + n) true _ _ w.1 f y v h
freed-back s x z k a p _ _ w (beyond {b = array n j} {old = bs} {blocks = cs} f) y v (inl h) =
    (inl h, omega (arith, h, w.0.least, freed-above x z k (a + (n + j)) bs cs f))
freed-back s x z k a p _ _ w (beyond {b = array n j} f) y v (inr h) =
    let r = freed-back s x z k (a + (n + j)) false _ _ w.1 f y v h in (inr r.0, r.1)
