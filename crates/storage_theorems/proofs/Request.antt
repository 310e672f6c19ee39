-- A request, served or not: the theorem of specs/Request.
use Prim.Native.Nat.{ℕ, ◌+◌, ◌-◌, ◌^◌, ◌<◌, ◌≤◌}
use mathlib.Core.Path.{◌≡◌, ◌∙◌, ap}
use mathlib.Core.Bool.{Bool, true, false}
use mathlib.Core.List.{List, [], ◌∷◌, ◌++◌}
use mathlib.Core.Logic.{◌↔◌, ◌≢◌, ◌⊎◌, inl, inr, ⊎_elim}
use native.Mathlib.Omega.{arith}
use Rattle.segment.specs.State.{blockptr}
use Rattle.segment.specs.Blocks.{size_at, span_at}
use Rattle.storage.specs.Request.{find, give, given, request_at, request}
use Rattle.storage.specs.Heap.{Block, Walk, over, frees, count, Heap, free, array}
use Rattle.storage_theorems.specs.Words.{HasRoom, FreeWord, Leaves}
use Rattle.storage_theorems.specs.Request.{Placed, Served, Request, high_end, entire}
use Rattle.storage.proofs.Requests.{given-split, given-whole, give-split, give-whole, request-none, request_at-none, request-some, request_at-some}
use Rattle.storage_theorems.proofs.Walks.{over-le, walk_at}
use Rattle.storage_theorems.proofs.Counts.{order, hit_same, over-append, frees-within, free-split}
use Rattle.storage_theorems.proofs.Search.{find_cases}
use Rattle.storage_theorems.proofs.Placed.{placed-old, placed-new, placed-given, placed-above, placed-fresh, placed-further, placed-room, placed-words}
use Rattle.storage_theorems.proofs.Split.{split-heap, split-leaves}
use Rattle.storage_theorems.proofs.Whole.{whole-leaves, whole-heap}

-- SIZE of a free block of the heap
pub free-size : {s : List ℕ} {t : List ℕ} (xs : List Block) (n : ℕ) (ys : List Block) → Heap s (xs ++ free n ∷ ys) t
    → size_at s (over (blockptr s) xs) ≡ n
free-size {s} {t} xs n ys g =
    let w = walk_at s (blockptr s) false xs (free n ∷ ys) g.walk in
    omega (arith, w.1.0.first, g.top, g.room, g.short, over-append (blockptr s) xs (free n ∷ ys), over-le (over (blockptr s) xs + n) ys)

give-heap : {s : List ℕ} {t : List ℕ} (xs : List Block) (n : ℕ) (ys : List Block) (size : ℕ) → Heap s (xs ++ free n ∷ ys) t → 3 ≤ size → size ≤ n
    → (cs : List Block) × (t' : List ℕ) × Heap (give s (over (blockptr s) xs) size) cs t' × Placed (given s (over (blockptr s) xs) size) size
    (blockptr s) (xs ++ free n ∷ ys) cs
    × Leaves s (give s (over (blockptr s) xs) size) (xs ++ free n ∷ ys)
give-heap {s} {t} xs n ys size g n3 fits = ⊎_elim big small (order (size + 3) n)
  where
    z : size_at s (over (blockptr s) xs) ≡ n
    z = free-size xs n ys g

    Goal : Type 0
    Goal =
        (cs : List Block) × (t' : List ℕ) × Heap (give s (over (blockptr s) xs) size) cs t' × Placed (given s (over (blockptr s) xs) size) size
        (blockptr s) (xs ++ free n ∷ ys) cs
        × Leaves s (give s (over (blockptr s) xs) size) (xs ++ free n ∷ ys)

    big : size + 3 ≤ n → Goal
    big h =
        let r = split-heap xs n ys size g n3 h in (
          xs ++ free (n - size) ∷ array size 0 ∷ ys,
          r.0,
          rw (give-split s (over (blockptr s) xs) size (omega (arith, z)), z) r.1,
          placed-further _ _ _ xs _ _ (high_end h (given-split s (over (blockptr s) xs) size (omega (arith, z)) ∙ rw z)),
          rw (give-split s (over (blockptr s) xs) size (omega (arith, z)), z) (split-leaves xs n ys size g n3 h),
        )

    small : n < size + 3 → Goal
    small h =
        let r = whole-heap xs n ys size g n3 fits h in (
          xs ++ array size (n - size) ∷ ys,
          r.0,
          rw (give-whole s (over (blockptr s) xs) size (omega (arith, z)), z) r.1,
          placed-further _ _ _ xs _ _ (entire fits (omega (arith, h)) (given-whole s (over (blockptr s) xs) size (omega (arith, z)))),
          rw (give-whole s (over (blockptr s) xs) size (omega (arith, z)), z) (whole-leaves xs n ys size g n3 fits h),
        )

-- which words are free no more
words : {s s' : List ℕ} {bs cs : List Block} {t : List ℕ} (x z : ℕ) → Heap s' cs t → Placed x z (blockptr s) bs cs → Leaves s s' bs → 8 ≤ blockptr s
    → (i : ℕ)
    → FreeWord (blockptr s) bs i ↔ (FreeWord (blockptr s) cs i ⊎ ((x ≤ i) × (i < x + span_at s' x)))
words {s} {s'} {bs} {cs} x z g p l low i =
    let b : blockptr s' ≡ blockptr s = l.quiet 4 (omega arith) (inl (omega arith)) in
    placed-words s' x z (blockptr s) false bs cs (rw b at g.walk) (omega (arith, g.top, g.room, g.short, b, ap (λ (y : ℕ). over y cs) b)) p i

-- the same of a request that found the block
found : {s : List ℕ} {bs : List Block} {t : List ℕ} (size f : ℕ) → Heap s bs t → 3 ≤ size → find s size ≢ 0 → f ≡ find s size
    → (cs : List Block) × (t' : List ℕ) × Heap (give s f size) cs t' × Placed (given s f size) size (blockptr s) bs cs × Leaves s (give s f size) bs
    → Served s bs size
found {s} {bs} size f g n3 ne e o =
    let p : Placed (request_at s size) size (blockptr s) bs o.0 = rw (request_at-some s size ne, ← e) o.3 in
    let h : Heap (request s size) o.0 o.1 = rw (request-some s size ne, ← e) o.2 in
    let l : Leaves s (request s size) bs = rw (request-some s size ne, ← e) o.4 in
    record {
      blocks = o.0;
      ring = o.1;
      heap = h;
      placed = p;
      words = words _ _ h p l g.low;
      arrays = λ y v. (placed-new _ _ _ _ _ p y v, ⊎_elim (λ k. rw (k.0, k.1) (placed-given _ _ _ _ _ p)) (placed-old _ _ _ _ _ p y v));
      apart = placed-fresh s _ _ (blockptr s) false bs _ g.walk n3 p;
      leaves = l;
    }

serve : {s : List ℕ} {t : List ℕ} (xs : List Block) (n : ℕ) (ys : List Block) (size : ℕ) → Heap s (xs ++ free n ∷ ys) t → 3 ≤ size
    → over (blockptr s) xs ≡ find s size → size ≤ size_at s (find s size) → find s size ≢ 0 → Served s (xs ++ free n ∷ ys) size
serve {s} xs n ys size g n3 e k ne =
    found size _ g n3 ne e (give-heap xs n ys size g n3 (omega (arith, free-size xs n ys g, ap (λ (y : ℕ). size_at s y) e)))

-- a request that finds no block, and one that does
pub request-heap : {s : List ℕ} {bs : List Block} {t : List ℕ} (size : ℕ) → Heap s bs t → 3 ≤ size
    → ((request_at s size ≡ 0) × (request s size ≡ s) × ((x : ℕ) → 0 < count x (frees (blockptr s) bs) → size_at s x < size)) ⊎ Served s bs size
request-heap {s} {bs} {t} size g n3 =
    ⊎_elim (λ e. inl (request_at-none s size e.0, request-none s size e.0, e.1))
    (λ e. let r = free-split (blockptr s) bs (find s size) e.0 in
    inr (rw r.3
    (serve r.0 r.1 r.2 size (rw r.3 at g) n3 r.4 e.1
    (λ z. omega (arith, z, g.low, frees-within s (blockptr s) false bs (find s size) g.walk e.0)))))
    (find_cases g size (omega arith))

pub served-at : {s : List ℕ} {bs : List Block} {size : ℕ} → Served s bs size → 8 ≤ blockptr s → request_at s size ≢ 0
served-at {s} {bs} {size} d l z = omega (arith, z, l, placed-above (request_at s size) size (blockptr s) bs d.blocks d.placed)

-- a free block that is long enough, by its words
room-free : (s : List ℕ) (a : ℕ) (p : Bool) (bs : List Block) (size : ℕ) → Walk s a p bs → over a bs < 2 ^ 16 → HasRoom bs size
    → (x : ℕ) × (0 < count x (frees a bs)) × (size ≤ size_at s x)
room-free s a p [] size w l h = elim h [ ]
room-free s a p (free n ∷ bs) size w l (inl h) = (a, omega (arith, hit_same a), omega (arith, w.0.first, over-le (a + n) bs))
room-free s a p (free n ∷ bs) size w l (inr h) = let r = room-free s (a + n) true bs size w.1 l h in (r.0, omega (arith, r.1), r.2)
room-free s a p (array n k ∷ bs) size w l h = room-free s (a + (n + k)) false bs size w.1 l h

-- the theorem of a request
pub request-theorem : {s : List ℕ} {bs : List Block} {t : List ℕ} (size : ℕ) → Heap s bs t → 3 ≤ size → Request s bs size
request-theorem {s} {bs} {t} size g n3 = ⊎_elim refused served (request-heap size g n3)
  where
    refused : (request_at s size ≡ 0) × (request s size ≡ s) × ((x : ℕ) → 0 < count x (frees (blockptr s) bs) → size_at s x < size) → Request s bs size
    refused r = record {
      found = (
        λ h. absurd (h r.0),
        λ h. let f =
            room-free s (blockptr s) false bs size g.walk (omega (arith, g.top, g.room, g.short)) h in absurd
            (omega (arith, f.2, r.2 f.0 f.1)),
      );
      none = λ h. r.1;
      served = λ h. absurd (h r.0);
    }

    served : Served s bs size → Request s bs size
    served d = record {
      found = (λ h. placed-room _ _ _ _ _ d.placed, λ h. served-at d g.low);
      none = λ h. absurd (served-at d g.low h);
      served = λ h. d;
    }
