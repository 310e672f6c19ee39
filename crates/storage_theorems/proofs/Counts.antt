-- How often a number stands in a list, and the addresses of the free blocks.
use Prim.Native.Nat.{ℕ, ◌+◌, ◌*◌, ◌<◌, ◌≤◌}
use mathlib.Core.Path.{◌≡◌, refl, sym, ◌∙◌, ap}
use mathlib.Core.Bool.{Bool, true, false, cond}
use mathlib.Core.List.{List, [], ◌∷◌, ◌++◌}
use mathlib.Core.Logic.{◌≢◌, ◌⊎◌, inl, inr, ⊎_elim}
use native.Mathlib.Omega.{arith}
use lib.ListN.{length, length-append}
use lib.Dec.{leb, eqb}
use borrow.Author.Tests.{leb-true, leb-false, eqb-true, eqb-false, eq-eqb}
use Rattle.storage.specs.Heap.{Block, span, Walk, over, frees, hit, count, free, array}
use Rattle.storage_theorems.proofs.Walks.{over-le}

-- a number is at most another, or above it
pub order : (x y : ℕ) → (x ≤ y) ⊎ (y < x)
order x y = go (leb x y) refl
  where
    go : (b : Bool) → leb x y ≡ b → (x ≤ y) ⊎ (y < x)
    go true e = inl (leb-true _ _ e)
    go false e = inr (leb-false _ _ e)

pub hit-cases : (x y : ℕ) → ((x ≡ y) × (hit x y ≡ 1)) ⊎ ((x ≡ y → ⊥) × (hit x y ≡ 0))
unfolding hit
hit-cases x y = go (eqb x y) refl
  where
    go : (b : Bool) → eqb x y ≡ b → ((x ≡ y) × (cond {A = ℕ} b 1 0 ≡ 1)) ⊎ ((x ≡ y → ⊥) × (cond {A = ℕ} b 1 0 ≡ 0))
    go true e = inl (eqb-true _ _ e, refl)
    go false e = inr (eqb-false _ _ e, refl)

pub hit_same : (x : ℕ) → hit x x ≡ 1
unfolding hit
hit_same x = simp (eq-eqb x x refl)

pub hit-eq : (x y : ℕ) → x ≡ y → hit x y ≡ 1
hit-eq x y e = rw e (hit_same y)

pub hit-not : (x y : ℕ) → x ≢ y → hit x y ≡ 0
hit-not x y n = ⊎_elim (λ e. absurd (n e.0)) (λ e. e.1) (hit-cases x y)

pub count-le : (x : ℕ) (l : List ℕ) → count x l ≤ length l
count-le x [] = omega arith
count-le x (y ∷ l) = ⊎_elim (λ e. omega (arith, e, count-le x l)) (λ e. omega (arith, e, count-le x l)) (hit-cases x y)

pub count-append : (x : ℕ) (l m : List ℕ) → count x (l ++ m) ≡ count x l + count x m
count-append x [] m = omega arith
count-append x (y ∷ l) m = omega (arith, count-append x l m)

-- where a number stands in a list
pub member-split : (x : ℕ) (l : List ℕ) → 0 < count x l → (us : List ℕ) × (vs : List ℕ) × (l ≡ us ++ x ∷ vs)
member-split x [] h = absurd (omega arith)
member-split x (y ∷ l) h =
    ⊎_elim (λ e. ([], l, rw e.0))
    (λ e. let r = member-split x l (omega (arith, e)) in (y ∷ r.0, r.1, ap (λ (m : List ℕ). y ∷ m) r.2))
    (hit-cases x y)

-- two lists with the same counts are equally long
pub count-length : (l m : List ℕ) → ((x : ℕ) → count x l ≡ count x m) → length l ≡ length m
count-length [] [] h = refl
count-length [] (y ∷ m) h = absurd (omega (arith, h y, hit_same y))
count-length (y ∷ l) m h =
    let r = member-split y m (omega (arith, h y, hit_same y)) in
    let k = count-length l (r.0 ++ r.1) (λ x. omega (arith, rw r.2 at (h x), count-append x r.0 (y ∷ r.1), count-append x r.0 r.1)) in
    omega (arith, k, ap length r.2, length-append r.0 (y ∷ r.1), length-append r.0 r.1)

-- the addresses of the free blocks, by the parts of the walk
pub frees-append : (a : ℕ) (xs ys : List Block) → frees a (xs ++ ys) ≡ frees a xs ++ frees (over a xs) ys
frees-append a [] ys = refl
frees-append a (free n ∷ xs) ys = ap (λ (l : List ℕ). a ∷ l) (frees-append (a + n) xs ys)
frees-append a (array z k ∷ xs) ys = frees-append (a + (z + k)) xs ys

pub frees-count : (x a : ℕ) (xs ys : List Block) → count x (frees a (xs ++ ys)) ≡ count x (frees a xs) + count x (frees (over a xs) ys)
frees-count x a xs ys = ap (count x) (frees-append a xs ys) ∙ count-append x (frees a xs) (frees (over a xs) ys)

pub over-append : (a : ℕ) (xs ys : List Block) → over a (xs ++ ys) ≡ over (over a xs) ys
over-append a [] ys = refl
over-append a (b ∷ xs) ys = over-append (a + span b) xs ys

-- a free block of a walk lies within it
pub frees-within : (s : List ℕ) (a : ℕ) (p : Bool) (bs : List Block) (x : ℕ) → Walk s a p bs → 0 < count x (frees a bs)
    → (a ≤ x) × (x + 3 ≤ over a bs)
frees-within s a p [] x h k = absurd (omega arith)
frees-within s a p (free n ∷ bs) x h k =
    ⊎_elim (λ e. omega (arith, over-le (a + n) bs, h.0.least))
    (λ e. omega (arith, frees-within s (a + n) true bs x h.1 (omega arith)))
    (hit-cases x a)
frees-within s a p (array z k ∷ bs) x h j = omega (arith, frees-within s (a + (z + k)) false bs x h.1 j)

-- where a free block stands beside another one
pub frees-cases : (s : List ℕ) (a : ℕ) (p : Bool) (xs : List Block) (n : ℕ) (ys : List Block) (x : ℕ) → Walk s a p (xs ++ free n ∷ ys)
    → 0 < count x (frees a (xs ++ free n ∷ ys)) → (x + 3 ≤ over a xs) ⊎ ((x ≡ over a xs) ⊎ (over a xs + n ≤ x))
frees-cases s a p [] n ys x h k =
    ⊎_elim (λ e. inr (inl e.0)) (λ e. inr (inr (frees-within s (a + n) true ys x h.1 (omega (arith, e))).0)) (hit-cases x a)
frees-cases s a p (free m ∷ xs) n ys x h k =
    ⊎_elim (λ e. inl (omega (arith, e, over-le (a + m) xs, h.0.least)))
    (λ e. frees-cases s (a + m) true xs n ys x h.1 (omega (arith, e)))
    (hit-cases x a)
frees-cases s a p (array z m ∷ xs) n ys x h k = frees-cases s (a + (z + m)) false xs n ys x h.1 k

-- at most one free block at an address
pub frees-once : (s : List ℕ) (a : ℕ) (p : Bool) (bs : List Block) (x : ℕ) → Walk s a p bs → count x (frees a bs) ≤ 1
frees-once s a p [] x h = omega arith
frees-once s a p (free n ∷ bs) x h =
    ⊎_elim
    (λ e. ⊎_elim (λ l. omega (arith, e)) (λ l. absurd (omega (arith, e, h.0.least, frees-within s (a + n) true bs x h.1 l)))
    (order (count x (frees (a + n) bs)) 0))
    (λ e. omega (arith, e, frees-once s (a + n) true bs x h.1))
    (hit-cases x a)
frees-once s a p (array z k ∷ bs) x h = frees-once s (a + (z + k)) false bs x h.1

-- a free block is at least 3 words
pub frees-few : (s : List ℕ) (a : ℕ) (p : Bool) (bs : List Block) → Walk s a p bs → 3 * length (frees a bs) + a ≤ over a bs
frees-few s a p [] h = omega arith
frees-few s a p (free n ∷ bs) h = omega (arith, h.0.least, frees-few s (a + n) true bs h.1)
frees-few s a p (array z k ∷ bs) h = omega (arith, frees-few s (a + (z + k)) false bs h.1)

-- where a free block stands among the blocks
pub free-split : (a : ℕ) (bs : List Block) (x : ℕ) → 0 < count x (frees a bs)
    → (xs : List Block) × (n : ℕ) × (ys : List Block) × (bs ≡ xs ++ free n ∷ ys) × (over a xs ≡ x)
free-split a [] x h = absurd (omega arith)
free-split a (free n ∷ bs) x h =
    ⊎_elim (λ e. ([], n, bs, refl, sym e.0))
    (λ e. let r = free-split (a + n) bs x (omega (arith, e)) in (free n ∷ r.0, r.1, r.2, ap (λ (m : List Block). free n ∷ m) r.3, r.4))
    (hit-cases x a)
free-split a (array z k ∷ bs) x h =
    let r = free-split (a + (z + k)) bs x h in (array z k ∷ r.0, r.1, r.2, ap (λ (m : List Block). array z k ∷ m) r.3, r.4)

-- a free block of a walk stands before a place, or behind it
pub frees-either : (s : List ℕ) (a : ℕ) (p : Bool) (xs ys : List Block) (x : ℕ) → Walk s a p (xs ++ ys) → 0 < count x (frees a (xs ++ ys))
    → ((a ≤ x) × (x + 3 ≤ over a xs)) ⊎ (0 < count x (frees (over a xs) ys))
frees-either s a p [] ys x h k = inr k
frees-either s a p (free n ∷ xs) ys x h k =
    ⊎_elim (λ e. inl (omega (arith, e, over-le (a + n) xs, h.0.least)))
    (λ e. ⊎_elim (λ l. inl (omega (arith, l))) (λ l. inr l) (frees-either s (a + n) true xs ys x h.1 (omega (arith, e))))
    (hit-cases x a)
frees-either s a p (array z m ∷ xs) ys x h k = ⊎_elim (λ l. inl (omega (arith, l))) (λ l. inr l) (frees-either s (a + (z + m)) false xs ys x h.1 k)
