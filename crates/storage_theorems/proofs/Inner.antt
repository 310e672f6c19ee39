-- The words inside arrays: where they stand, and that a store there, or into the ring's links, leaves the walk.
use Prim.Native.Nat.{ℕ, ◌+◌, ◌-◌, ◌<◌, ◌≤◌}
use mathlib.Core.Path.{◌≡◌, ◌∙◌}
use mathlib.Core.Bool.{Bool, true, false}
use mathlib.Core.List.{List, [], ◌∷◌, ◌++◌}
use mathlib.Core.Logic.{◌↔◌, ◌≢◌, ◌⊎◌, inl, inr, ⊎_elim}
use native.Mathlib.Omega.{arith}
use lib.ListN.{get_or}
use Rattle.storage.specs.Heap.{Block, Walk, over, frees, count, free, array}
use Rattle.storage_theorems.specs.Words.{FreeWord, Inner}
use Rattle.storage_theorems.proofs.Walks.{over-le, block_same, walk_same}
use Rattle.storage_theorems.proofs.Counts.{hit-cases, frees-within}

-- a free block, or the dummy, is not before the walk
pub reach : (s : List ℕ) (a : ℕ) (p : Bool) (bs : List Block) (x : ℕ) → Walk s a p bs → 0 < count x (over a bs ∷ frees a bs) → a ≤ x
reach s a p bs x h k = ⊎_elim (λ w. omega (arith, w, over-le a bs)) (λ w. (frees-within s a p bs x h (omega (arith, w))).0) (hit-cases x (over a bs))

-- a store to the second word of a free block, or behind the walk, leaves the walk
pub walk-second : (s s' : List ℕ) (x : ℕ) → ((i : ℕ) → i ≢ x + 1 → get_or s' i 0 ≡ get_or s i 0) → (a : ℕ) (p : Bool) (bs : List Block) → Walk s a p bs
    → 0 < count x (over a bs ∷ frees a bs) → Walk s' a p bs
walk-second s s' x e a p [] h k = ⊎_elim (λ w. e a (omega (arith, w)) ∙ h) (λ w. absurd (omega (arith, w))) (hit-cases x a)
walk-second s s' x e a p (free n ∷ bs) h k =
    ⊎_elim
    (λ w. (
      record {
        alone = h.0.alone;
        least = h.0.least;
        first = e a (omega (arith, w)) ∙ h.0.first;
        end = e (a + n - 1) (omega (arith, w, h.0.least)) ∙ h.0.end;
      },
      walk_same s s' (a + n) true bs h.1 (λ i l u. e i (omega (arith, w, h.0.least))),
    ))
    (λ w. let j : 0 < count x (over (a + n) bs ∷ frees (a + n) bs) = omega (arith, w) in
    let q : a + n ≤ x = reach s (a + n) true bs x h.1 j in
    (block_same s s' a p (free n) h.0 (λ i l u. e i (omega arith)), walk-second s s' x e (a + n) true bs h.1 j))
    (hit-cases x a)
walk-second s s' x e a p (array z m ∷ bs) h k =
    let q : a + (z + m) ≤ x = reach s (a + (z + m)) false bs x h.1 k in
    (block_same s s' a p (array z m) h.0 (λ i l u. e i (omega arith)), walk-second s s' x e (a + (z + m)) false bs h.1 k)

-- an array's words stand clear of the free blocks and of the dummy
pub inner-above : (a : ℕ) (bs : List Block) (i : ℕ) → Inner a bs i → a < i
inner-above a [] i h = elim h [ ]
inner-above a (free n ∷ bs) i h = omega (arith, inner-above (a + n) bs i h)
inner-above a (array z k ∷ bs) i (inl h) = h.0
inner-above a (array z k ∷ bs) i (inr h) = omega (arith, inner-above (a + (z + k)) bs i h)

pub inner_below : (a : ℕ) (bs : List Block) (i : ℕ) → Inner a bs i → i < over a bs
inner_below a [] i h = elim h [ ]
inner_below a (free n ∷ bs) i h = inner_below (a + n) bs i h
inner_below a (array z k ∷ bs) i (inl h) = omega (arith, over-le (a + (z + k)) bs)
inner_below a (array z k ∷ bs) i (inr h) = inner_below (a + (z + k)) bs i h

pub inner-cases : (a : ℕ) (xs : List Block) (n : ℕ) (ys : List Block) (i : ℕ) → Inner a (xs ++ free n ∷ ys) i → (i < over a xs) ⊎ (over a xs + n < i)
inner-cases a [] n ys i h = inr (inner-above (a + n) ys i h)
inner-cases a (free m ∷ xs) n ys i h = inner-cases (a + m) xs n ys i h
inner-cases a (array z k ∷ xs) n ys i (inl h) = inl (omega (arith, h, over-le (a + (z + k)) xs))
inner-cases a (array z k ∷ xs) n ys i (inr h) = inner-cases (a + (z + k)) xs n ys i h

pub inner-apart : (s : List ℕ) (a : ℕ) (p : Bool) (bs : List Block) (x i : ℕ) → Walk s a p bs → Inner a bs i → 0 < count x (over a bs ∷ frees a bs)
    → i ≢ x + 1
inner-apart s a p [] x i w h k = elim h [ ]
inner-apart s a p (free n ∷ bs) x i w h k =
    ⊎_elim (λ e. omega (arith, e, w.0.least, inner-above (a + n) bs i h)) (λ e. inner-apart s (a + n) true bs x i w.1 h (omega (arith, e, k)))
    (hit-cases x a)
inner-apart s a p (array z m ∷ bs) x i w (inl h) k = omega (arith, h, reach s (a + (z + m)) false bs x w.1 k)
inner-apart s a p (array z m ∷ bs) x i w (inr h) k = inner-apart s (a + (z + m)) false bs x i w.1 h k

-- the blocks behind some others replaced
pub inner-swap : (a : ℕ) (xs ys vs : List Block) (i : ℕ) → (Inner (over a xs) ys i → Inner (over a xs) vs i) → Inner a (xs ++ ys) i
    → Inner a (xs ++ vs) i
inner-swap a [] ys vs i f h = f h
inner-swap a (free n ∷ xs) ys vs i f h = inner-swap (a + n) xs ys vs i f h
inner-swap a (array z k ∷ xs) ys vs i f (inl h) = inl h
inner-swap a (array z k ∷ xs) ys vs i f (inr h) = inr (inner-swap (a + (z + k)) xs ys vs i f h)

pub inner-here : (a : ℕ) (xs : List Block) (z k : ℕ) (ys : List Block) (i : ℕ) → over a xs < i → i < over a xs + z → Inner a (xs ++ array z k ∷ ys) i
inner-here a [] z k ys i l u = inl (l, omega arith)
inner-here a (free n ∷ xs) z k ys i l u = inner-here (a + n) xs z k ys i l u
inner-here a (array y m ∷ xs) z k ys i l u = inr (inner-here (a + (y + m)) xs z k ys i l u)

-- a store to a word of an array but its first leaves the walk
pub walk-inner : (s s' : List ℕ) (j : ℕ) → ((i : ℕ) → i ≢ j → get_or s' i 0 ≡ get_or s i 0) → (a : ℕ) (p : Bool) (bs : List Block) → Walk s a p bs
    → Inner a bs j → Walk s' a p bs
walk-inner s s' j e a p [] h k = elim k [ ]
walk-inner s s' j e a p (free n ∷ bs) h k =
    (block_same s s' a p (free n) h.0 (λ i l u. e i (omega (arith, inner-above (a + n) bs j k))), walk-inner s s' j e (a + n) true bs h.1 k)
walk-inner s s' j e a p (array z m ∷ bs) h (inl k) = (
  record { least = h.0.least; small = h.0.small; first = e a (omega arith) ∙ h.0.first },
  walk_same s s' (a + (z + m)) false bs h.1 (λ i l u. e i (omega arith)),
)
walk-inner s s' j e a p (array z m ∷ bs) h (inr k) = (
  block_same s s' a p (array z m) h.0 (λ i l u. e i (omega (arith, inner-above (a + (z + m)) bs j k))),
  walk-inner s s' j e (a + (z + m)) false bs h.1 k,
)

-- free words behind one more free block
pub free_more : (a n : ℕ) (bs cs : List Block) (i : ℕ) (P : Type 0) → FreeWord (a + n) cs i ↔ (FreeWord (a + n) bs i ⊎ P)
    → FreeWord a (free n ∷ cs) i ↔ (FreeWord a (free n ∷ bs) i ⊎ P)
free_more a n bs cs i P r = (to, from)
  where
    to : FreeWord a (free n ∷ cs) i → FreeWord a (free n ∷ bs) i ⊎ P
    to (inl h) = inl (inl h)
    to (inr h) = ⊎_elim (λ u. inl (inr u)) (λ u. inr u) (r.0 h)

    from : FreeWord a (free n ∷ bs) i ⊎ P → FreeWord a (free n ∷ cs) i
    from (inl (inl h)) = inl h
    from (inl (inr h)) = inr (r.1 (inl h))
    from (inr h) = inr (r.1 (inr h))
