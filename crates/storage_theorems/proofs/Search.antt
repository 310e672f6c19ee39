-- The search finds a block exactly when some free block is long enough.
use Prim.Native.Nat.{ℕ, ◌-◌, ◌<◌, ◌≤◌}
use mathlib.Core.Path.{◌≡◌, refl, sym, ◌∙◌, ap}
use mathlib.Core.Bool.{false}
use mathlib.Core.List.{List, [], ◌∷◌}
use mathlib.Core.Logic.{◌⊎◌, inl, inr, ⊎_elim}
use native.Mathlib.Omega.{arith}
use lib.ListN.{length}
use Rattle.segment.specs.State.{rover, blockptr}
use Rattle.segment.specs.Blocks.{size_at}
use Rattle.storage.specs.Request.{find_from, find}
use Rattle.storage.specs.Heap.{Block, over, frees, hit, count, Links, Heap}
use Rattle.storage.proofs.Requests.{find-here, find-round, find-on}
use Rattle.storage_theorems.proofs.Walks.{over-le, walk-dummy}
use Rattle.storage_theorems.proofs.Counts.{order, hit-cases, hit_same, hit-eq, count-length, frees-within, frees-once, frees-few}
use Rattle.storage_theorems.proofs.Ring.{ring-at}

-- what a search finds on a way of links: the first with room, or none
pub data Found (s : List ℕ) (size : ℕ) : List ℕ → ℕ → Type 0 where
  here : {a : ℕ} {t : List ℕ} → size ≤ size_at s a → Found s size (a ∷ t) a
  there : {a r : ℕ} {t : List ℕ} → size_at s a < size → Found s size t r → Found s size (a ∷ t) r
  nowhere : Found s size [] 0

pub find-found : (n : ℕ) (s : List ℕ) (size stop a : ℕ) (t : List ℕ) → Links s a t stop → (count stop t ≡ 0) → length t < n
    → Found s size (a ∷ t) (find_from n s size stop a)
find-found n s size stop a [] h z l =
    ⊎_elim (λ k. rw (find-here n s size stop a (omega arith) k) (here k))
    (λ k. rw (find-round n s size stop a (omega arith) k h.next) (there k nowhere))
    (order size (size_at s a))
find-found n s size stop a (b ∷ t) h z l =
    ⊎_elim (λ k. rw (find-here n s size stop a (omega arith) k) (here k))
    (λ k. rw (
      find-on n s size stop a (omega arith) k (λ e. let q : hit stop b ≡ 1 = hit-eq stop b (sym e ∙ h.0.next) in omega arith),
      h.0.next,
    )
    (there k (find-found (n - 1) s size stop b t h.1 (omega arith) (omega arith))))
    (order size (size_at s a))

-- what is found has room and stands in the list; else no member has room
pub found-cases : {s : List ℕ} {size : ℕ} {l : List ℕ} {r : ℕ} → Found s size l r
    → ((r ≡ 0) × ((x : ℕ) → 0 < count x l → size_at s x < size)) ⊎ ((0 < count r l) × (size ≤ size_at s r))
found-cases (here {a} k) = inr (omega (arith, hit_same a), k)
found-cases {s} {size} (there {a} {r} {t} k f) =
    ⊎_elim
    (λ e. inl (e.0, λ x c. ⊎_elim (λ w. rw w.0 k) (λ w. e.1 x (omega (arith, w))) (hit-cases x a)))
    (λ e. inr (omega (arith, e), e.1))
    (found-cases f)
found-cases nowhere = inl (refl, λ x c. absurd (omega arith))

module _ {s : List ℕ} {bs : List Block} {t : List ℕ} (g : Heap s bs t) where
  -- the ring is shorter than the segment
  pub ring-short : length t < length s
  ring-short = omega (
    arith,
    g.low,
    g.top,
    g.room,
    count-length (rover s ∷ t) (over (blockptr s) bs ∷ frees (blockptr s) bs) g.once,
    frees-few s (blockptr s) false bs g.walk,
  )

  -- no member stands twice
  pub ring-once : (x : ℕ) → count x (rover s ∷ t) ≤ 1
  ring-once x =
      ⊎_elim
      (λ e. ⊎_elim (λ l. omega (arith, e, l, g.once x))
      (λ l. absurd (omega (arith, e, frees-within s (blockptr s) false bs x g.walk l))) (order (count x (frees (blockptr s) bs)) 0))
      (λ e. omega (arith, e, g.once x, frees-once s (blockptr s) false bs x g.walk))
      (hit-cases x (over (blockptr s) bs))

  pub members-once : (x : ℕ) → count x (over (blockptr s) bs ∷ frees (blockptr s) bs) ≤ 1
  members-once x = omega (arith, ring-once x, g.once x)

  -- a member lies in array storage
  pub member-within : (x : ℕ) → 0 < count x (rover s ∷ t) → (blockptr s ≤ x) × (x ≤ over (blockptr s) bs)
  member-within x k =
      ⊎_elim (λ e. omega (arith, e, over-le (blockptr s) bs))
      (λ e. omega (arith, frees-within s (blockptr s) false bs x g.walk (omega (arith, e, k, g.once x))))
      (hit-cases x (over (blockptr s) bs))

  -- the ring from a free block, with the member behind it
  pub free-ring : (q : ℕ) → 0 < count q (frees (blockptr s) bs)
      → (b : ℕ) × (vs : List ℕ) × Links s q (b ∷ vs) q × ((x : ℕ) → count x (q ∷ b ∷ vs) ≡ count x (over (blockptr s) bs ∷ frees (blockptr s) bs))
  free-ring q k = go r.0 r.1 (λ x. r.2 x ∙ g.once x)
    where
      r : (u : List ℕ) × Links s q u q × ((x : ℕ) → count x (q ∷ u) ≡ count x (rover s ∷ t))
      r = ring-at s (rover s) t q g.links (omega (arith, g.once q, k))

      go : (u : List ℕ) → Links s q u q → ((x : ℕ) → count x (q ∷ u) ≡ count x (over (blockptr s) bs ∷ frees (blockptr s) bs))
          → (b : ℕ) × (vs : List ℕ) × Links s q (b ∷ vs) q × ((x : ℕ) → count x (q ∷ b ∷ vs) ≡ count x (over (blockptr s) bs ∷ frees (blockptr s) bs))
      go [] h c =
          absurd (⊎_elim (λ e. omega (arith, e, frees-within s (blockptr s) false bs q g.walk k))
          (λ e. omega (arith, e, c (over (blockptr s) bs), hit_same (over (blockptr s) bs))) (hit-cases (over (blockptr s) bs) q))
      go (b ∷ vs) h c = (b, vs, h, c)

  -- what the search finds
  pub find-is : (size : ℕ) → Found s size (rover s ∷ t) (find s size)
  unfolding find
  find-is size = find-found (length s) s size (rover s) (rover s) t g.links (omega (arith, ring-once (rover s), hit_same (rover s))) ring-short

  -- the dummy is too short for any request
  pub dummy-size : size_at s (over (blockptr s) bs) ≡ 0
  dummy-size = walk-dummy s (blockptr s) false bs g.walk

  -- a block is found, and is a free block with room, or none has room
  pub find_cases : (size : ℕ) → 0 < size
      → ((find s size ≡ 0) × ((x : ℕ) → 0 < count x (frees (blockptr s) bs) → size_at s x < size))
      ⊎ ((0 < count (find s size) (frees (blockptr s) bs)) × (size ≤ size_at s (find s size)))
  find_cases size pos =
      ⊎_elim
      (λ e. inl (e.0, λ x c. e.1 x (omega (arith, g.once x))))
      (λ e. inr (
        ⊎_elim (λ w. absurd (omega (arith, e.1, ap (λ (y : ℕ). size_at s y) w.0, dummy-size)))
            (λ w. omega (arith, w, e.0, g.once (find s size))) (hit-cases (find s size) (over (blockptr s) bs)),
        e.1,
      ))
      (found-cases (find-is size))
