-- The arrays among the blocks: where they stand, and that no two of them share a word.
use Prim.Native.Nat.{ℕ, ◌+◌, ◌^◌, ◌<◌, ◌≤◌}
use mathlib.Core.Path.{◌≡◌, sym, ap}
use mathlib.Core.Bool.{Bool, true, false}
use mathlib.Core.List.{List, [], ◌∷◌, ◌++◌}
use mathlib.Core.Logic.{◌⊎◌, inl, inr}
use native.Mathlib.Omega.{arith}
use Rattle.segment.specs.Blocks.{slop_at, size_at}
use Rattle.storage.specs.Heap.{Block, ArrayBlock, Walk, over, free, array}
use Rattle.storage.specs.Owned.{ArrayIn}
use Rattle.storage_theorems.specs.Words.{Inner}
use Rattle.storage_theorems.proofs.Walks.{over-le}

-- an array's words but the first
pub array-inner : (a : ℕ) (bs : List Block) (x z i : ℕ) → ArrayIn a bs x z → x < i → i < x + z → Inner a bs i
array-inner a [] x z i h l u = elim h [ ]
array-inner a (free n ∷ bs) x z i h l u = array-inner (a + n) bs x z i h l u
array-inner a (array y k ∷ bs) x z i (inl h) l u = inl (omega (arith, h, l, u))
array-inner a (array y k ∷ bs) x z i (inr h) l u = inr (array-inner (a + (y + k)) bs x z i h l u)

-- an array lies within the walk
pub array-within : (s : List ℕ) (a : ℕ) (p : Bool) (bs : List Block) (x z : ℕ) → Walk s a p bs → ArrayIn a bs x z
    → (a ≤ x) × (x + z ≤ over a bs) × (3 ≤ z)
array-within s a p [] x z w h = elim h [ ]
array-within s a p (free n ∷ bs) x z w h = omega (arith, array-within s (a + n) true bs x z w.1 h)
array-within s a p (array y k ∷ bs) x z w (inl h) = omega (arith, h, w.0.least, over-le (a + (y + k)) bs)
array-within s a p (array y k ∷ bs) x z w (inr h) = omega (arith, array-within s (a + (y + k)) false bs x z w.1 h)

-- two arrays are the same, or have no word in common
pub array_apart : (s : List ℕ) (a : ℕ) (p : Bool) (bs : List Block) (x z y v : ℕ) → Walk s a p bs → ArrayIn a bs x z → ArrayIn a bs y v
    → ((x ≡ y) × (z ≡ v)) ⊎ ((x + z ≤ y) ⊎ (y + v ≤ x))
array_apart s a p [] x z y v w h k = elim h [ ]
array_apart s a p (free n ∷ bs) x z y v w h k = array_apart s (a + n) true bs x z y v w.1 h k
array_apart s a p (array b m ∷ bs) x z y v w (inl h) (inl k) = inl (omega (arith, h, k))
array_apart s a p (array b m ∷ bs) x z y v w (inl h) (inr k) = inr (inl (omega (arith, h, array-within s (a + (b + m)) false bs y v w.1 k)))
array_apart s a p (array b m ∷ bs) x z y v w (inr h) (inl k) = inr (inr (omega (arith, k, array-within s (a + (b + m)) false bs x z w.1 h)))
array_apart s a p (array b m ∷ bs) x z y v w (inr h) (inr k) = array_apart s (a + (b + m)) false bs x z y v w.1 h k

-- an array by its place among the blocks
pub array-split : (a : ℕ) (bs : List Block) (x z : ℕ) → ArrayIn a bs x z
    → (xs : List Block) × (k : ℕ) × (ys : List Block) × (bs ≡ xs ++ array z k ∷ ys) × (over a xs ≡ x)
array-split a [] x z h = elim h [ ]
array-split a (free n ∷ bs) x z h =
    let r = array-split (a + n) bs x z h in (free n ∷ r.0, r.1, r.2, ap (λ (l : List Block). free n ∷ l) r.3, r.4)
array-split a (array y k ∷ bs) x z (inl h) = ([], k, bs, rw h.1, sym h.0)
array-split a (array y k ∷ bs) x z (inr h) =
    let r = array-split (a + (y + k)) bs x z h in (array y k ∷ r.0, r.1, r.2, ap (λ (l : List Block). array y k ∷ l) r.3, r.4)

-- SIZE and SLOP of an array
pub array-fields : (s : List ℕ) (a : ℕ) (p : Bool) (z k : ℕ) → ArrayBlock s a p z k → z < 2 ^ 16 → (size_at s a ≡ z) × (slop_at s a ≡ k)
array-fields s a true z k h l = omega (arith, h.first, h.small)
array-fields s a false z k h l = omega (arith, h.first, h.small)
