-- The arrays and the free words after a block was placed.
use Prim.Native.Nat.{ℕ, ◌+◌, ◌-◌, ◌^◌, ◌<◌, ◌≤◌}
use mathlib.Core.Path.{◌≡◌, refl, ◌∙◌, ap}
use mathlib.Core.Bool.{Bool, true, false}
use mathlib.Core.List.{List, [], ◌∷◌, ◌++◌}
use mathlib.Core.Logic.{◌↔◌, ◌⊎◌, inl, inr, ⊎_elim}
use native.Mathlib.Omega.{arith}
use Rattle.segment.specs.Blocks.{span_at}
use Rattle.storage.specs.Heap.{Block, span, Walk, over, free, array}
use Rattle.storage.specs.Owned.{ArrayIn}
use Rattle.storage_theorems.specs.Words.{HasRoom, FreeWord, Inner}
use Rattle.storage_theorems.specs.Request.{Placed, high_end, entire, further}
use Rattle.storage_theorems.proofs.Walks.{over-le}
use Rattle.storage_theorems.proofs.Counts.{order}
use Rattle.storage_theorems.proofs.Inner.{inner-above, free_more}
use Rattle.storage_theorems.proofs.Arrays.{array-within, array-fields}

-- the arrays are those that were and the new one
pub placed-old : (x z a : ℕ) (bs cs : List Block) → Placed x z a bs cs → (y v : ℕ) → ArrayIn a bs y v → ArrayIn a cs y v
placed-old x z a bs cs (high_end {n = n} h e) y v k = let q : a + (n - z) + (z + 0) ≡ a + n = omega arith in inr (rw q k)
placed-old x z a bs cs (entire {n = n} h l e) y v k = let q : a + (z + (n - z)) ≡ a + n = omega arith in inr (rw q k)
placed-old x z a bs cs (further {b = free n} h) y v k = placed-old x z (a + n) _ _ h y v k
placed-old x z a bs cs (further {b = array m j} h) y v (inl k) = inl k
placed-old x z a bs cs (further {b = array m j} h) y v (inr k) = inr (placed-old x z (a + (m + j)) _ _ h y v k)

pub placed-new : (x z a : ℕ) (bs cs : List Block) → Placed x z a bs cs → (y v : ℕ) → ArrayIn a cs y v → ((y ≡ x) × (v ≡ z)) ⊎ ArrayIn a bs y v
placed-new x z a bs cs (high_end {n = n} h e) y v (inl k) = inl (omega (arith, k, e))
placed-new x z a bs cs (high_end {n = n} h e) y v (inr k) = let q : a + (n - z) + (z + 0) ≡ a + n = omega arith in inr (rw q at k)
placed-new x z a bs cs (entire {n = n} h l e) y v (inl k) = inl (omega (arith, k, e))
placed-new x z a bs cs (entire {n = n} h l e) y v (inr k) = let q : a + (z + (n - z)) ≡ a + n = omega arith in inr (rw q at k)
placed-new x z a bs cs (further {b = free n} h) y v k = placed-new x z (a + n) _ _ h y v k
placed-new x z a bs cs (further {b = array m j} h) y v (inl k) = inr (inl k)
placed-new x z a bs cs (further {b = array m j} h) y v (inr k) = ⊎_elim (λ r. inl r) (λ r. inr (inr r)) (placed-new x z (a + (m + j)) _ _ h y v k)

pub placed-given : (x z a : ℕ) (bs cs : List Block) → Placed x z a bs cs → ArrayIn a cs x z
placed-given x z a bs cs (high_end h e) = inl (e, refl)
placed-given x z a bs cs (entire h l e) = inl (e, refl)
placed-given x z a bs cs (further {b = free n} h) = placed-given x z (a + n) _ _ h
placed-given x z a bs cs (further {b = array m j} h) = inr (placed-given x z (a + (m + j)) _ _ h)

pub placed-above : (x z a : ℕ) (bs cs : List Block) → Placed x z a bs cs → a ≤ x
placed-above x z a bs cs (high_end h e) = omega (arith, e)
placed-above x z a bs cs (entire h l e) = omega (arith, e)
placed-above x z a bs cs (further {b = b} {old = ys} {blocks = us} h) = omega (arith, placed-above x z (a + span b) ys us h)

-- the place of the new block was no array's
pub placed-fresh : (s : List ℕ) (x z a : ℕ) (p : Bool) (bs cs : List Block) → Walk s a p bs → 3 ≤ z → Placed x z a bs cs → (y v : ℕ)
    → ArrayIn a bs y v → (x + z ≤ y) ⊎ (y + v ≤ x)
placed-fresh s x z a p bs cs w l (high_end {n = n} {blocks = ys} h e) y v k = inl (omega (arith, e, array-within s (a + n) true ys y v w.1 k))
placed-fresh s x z a p bs cs w l (entire {n = n} {blocks = ys} h m e) y v k = inl (omega (arith, e, array-within s (a + n) true ys y v w.1 k))
placed-fresh s x z a p bs cs w l (further {b = free n} h) y v k = placed-fresh s x z (a + n) true _ _ w.1 l h y v k
placed-fresh s x z a p bs cs w l (further {b = array m j} {old = ys} {blocks = us} h) y v (inl k) =
    inr (omega (arith, k, placed-above x z (a + (m + j)) ys us h))
placed-fresh s x z a p bs cs w l (further {b = array m j} h) y v (inr k) = placed-fresh s x z (a + (m + j)) false _ _ w.1 l h y v k

pub placed-inner : (s : List ℕ) (x z a : ℕ) (p : Bool) (bs cs : List Block) → Walk s a p bs → Placed x z a bs cs → (i : ℕ) → Inner a bs i
    → (i ≤ x) ⊎ (x + z ≤ i)
placed-inner s x z a p bs cs w (high_end {n = n} {blocks = ys} h e) i k = inr (omega (arith, e, inner-above (a + n) ys i k))
placed-inner s x z a p bs cs w (entire {n = n} {blocks = ys} h m e) i k = inr (omega (arith, e, inner-above (a + n) ys i k))
placed-inner s x z a p bs cs w (further {b = free n} h) i k = placed-inner s x z (a + n) true _ _ w.1 h i k
placed-inner s x z a p bs cs w (further {b = array m j} {old = ys} {blocks = us} h) i (inl k) =
    inl (omega (arith, k, placed-above x z (a + (m + j)) ys us h))
placed-inner s x z a p bs cs w (further {b = array m j} h) i (inr k) = placed-inner s x z (a + (m + j)) false _ _ w.1 h i k

-- a block placed behind some others
pub placed-further : (x z a : ℕ) (xs bs cs : List Block) → Placed x z (over a xs) bs cs → Placed x z a (xs ++ bs) (xs ++ cs)
placed-further x z a [] bs cs h = h
placed-further x z a (b ∷ xs) bs cs h = further (placed-further x z (a + span b) xs bs cs h)

-- a block came out of a free one that was long enough
pub placed-room : (x z a : ℕ) (bs cs : List Block) → Placed x z a bs cs → HasRoom bs z
placed-room x z a bs cs (high_end h e) = inl (omega arith)
placed-room x z a bs cs (entire h l e) = inl h
placed-room x z a bs cs (further {b = free n} h) = inr (placed-room x z (a + n) _ _ h)
placed-room x z a bs cs (further {b = array m j} h) = placed-room x z (a + (m + j)) _ _ h

-- exactly the words of the new block are free no more
pub placed-words : (s : List ℕ) (x z a : ℕ) (p : Bool) (bs cs : List Block) → Walk s a p cs → over a cs < 2 ^ 16 → Placed x z a bs cs → (i : ℕ)
    → FreeWord a bs i ↔ (FreeWord a cs i ⊎ ((x ≤ i) × (i < x + span_at s x)))
placed-words s x z a p _ _ w l (high_end {n = n} {blocks = bs} h e) i = (to, from)
  where
    q : a + (n - z) + (z + 0) ≡ a + n
    q = omega arith

    sp : span_at s x ≡ z
    sp =
        let f = array-fields s (a + (n - z)) true z 0 w.1.0 (omega (arith, over-le (a + (n - z) + (z + 0)) bs)) in
        ap (span_at s) e ∙ omega (arith, f)

    to : FreeWord a (free n ∷ bs) i → FreeWord a (free (n - z) ∷ array z 0 ∷ bs) i ⊎ ((x ≤ i) × (i < x + span_at s x))
    to (inl k) = ⊎_elim (λ u. inr (omega (arith, k, u, e, sp))) (λ u. inl (inl (omega (arith, k, u, e)))) (order x i)
    to (inr k) = inl (inr (rw q k))

    from : FreeWord a (free (n - z) ∷ array z 0 ∷ bs) i ⊎ ((x ≤ i) × (i < x + span_at s x)) → FreeWord a (free n ∷ bs) i
    from (inl (inl k)) = inl (omega (arith, k))
    from (inl (inr k)) = inr (rw q at k)
    from (inr k) = inl (omega (arith, k, e, sp))
placed-words s x z a p _ _ w l (entire {n = n} {blocks = bs} h m e) i = (to, from)
  where
    q : a + (z + (n - z)) ≡ a + n
    q = omega arith

    sp : span_at s x ≡ n
    sp = let f = array-fields s a p z (n - z) w.0 (omega (arith, over-le (a + (z + (n - z))) bs)) in ap (span_at s) e ∙ omega (arith, f)

    to : FreeWord a (free n ∷ bs) i → FreeWord a (array z (n - z) ∷ bs) i ⊎ ((x ≤ i) × (i < x + span_at s x))
    to (inl k) = inr (omega (arith, k, e, sp))
    to (inr k) = inl (rw q k)

    from : FreeWord a (array z (n - z) ∷ bs) i ⊎ ((x ≤ i) × (i < x + span_at s x)) → FreeWord a (free n ∷ bs) i
    from (inl k) = inr (rw q at k)
    from (inr k) = inl (omega (arith, k, e, sp))
placed-words s x z a p _ _ w l (further {b = array n j} h) i = placed-words s x z (a + (n + j)) false _ _ w.1 l h i
placed-words s x z a p _ _ w l (further {b = free n} {old = bs} {blocks = cs} h) i =
    let r = placed-words s x z (a + n) true bs cs w.1 l h i in free_more a n cs bs i _ r
