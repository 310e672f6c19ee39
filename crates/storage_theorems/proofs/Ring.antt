-- The ring: links along a list, from any of its members, and with a member gone or come.
use Prim.Native.Nat.{ℕ, ◌+◌, ◌<◌}
use mathlib.Core.Path.{◌≡◌, refl, sym, ◌∙◌, ap}
use mathlib.Core.List.{List, [], ◌∷◌, ◌++◌}
use mathlib.Core.Logic.{◌⊎◌, inl, inr, ⊎_elim}
use native.Mathlib.Omega.{arith}
use lib.ListN.{get_or}
use Rattle.segment.specs.Blocks.{next_at, last_at}
use Rattle.storage.specs.Heap.{count, Links}
use Rattle.storage_theorems.proofs.Counts.{hit-cases, hit_same, hit-eq, count-append, member-split}

-- links over words that are the same
pub links-same : (s s' : List ℕ) (a : ℕ) (t : List ℕ) (z : ℕ) → Links s a t z
    → ((x : ℕ) → 0 < count x (a ∷ t) → get_or s' (x + 1) 0 ≡ get_or s (x + 1) 0) → get_or s' (z + 1) 0 ≡ get_or s (z + 1) 0 → Links s' a t z
links-same s s' a [] z h e f = record { next = rw (e a (omega (arith, hit_same a))) h.next; last = rw f h.last }
links-same s s' a (b ∷ t) z h e f = (
  record { next = rw (e a (omega (arith, hit_same a))) h.0.next; last = rw (e b (omega (arith, hit_same b))) h.0.last },
  links-same s s' b t z h.1 (λ x k. e x (omega arith)) f,
)

-- links through a list's middle
pub links-split : (s : List ℕ) (a : ℕ) (us : List ℕ) (b : ℕ) (vs : List ℕ) (z : ℕ) → Links s a (us ++ b ∷ vs) z → Links s a us b × Links s b vs z
links-split s a [] b vs z h = h
links-split s a (u ∷ us) b vs z h =
    let r = links-split s u us b vs z h.1 in
    ((h.0, r.0), r.1)

pub links-join : (s : List ℕ) (a : ℕ) (us : List ℕ) (b : ℕ) (vs : List ℕ) (z : ℕ) → Links s a us b → Links s b vs z → Links s a (us ++ b ∷ vs) z
links-join s a [] b vs z h k = (h, k)
links-join s a (u ∷ us) b vs z h k = (h.0, links-join s u us b vs z h.1 k)

-- a round from a next member
pub rotate : (s : List ℕ) (a : ℕ) (us : List ℕ) (b : ℕ) (vs : List ℕ) → Links s a (us ++ b ∷ vs) a → Links s b (vs ++ a ∷ us) b
rotate s a us b vs h = let r = links-split s a us b vs a h in links-join s b vs a us b r.1 r.0

pub rotate-count : (x a : ℕ) (us : List ℕ) (b : ℕ) (vs : List ℕ) → count x (b ∷ vs ++ a ∷ us) ≡ count x (a ∷ us ++ b ∷ vs)
rotate-count x a us b vs = omega (arith, count-append x vs (a ∷ us), count-append x us (b ∷ vs))

-- the round from the next member
pub ring-step : (s : List ℕ) (a : ℕ) (t : List ℕ) → Links s a t a
    → (t' : List ℕ) × Links s (next_at s a) t' (next_at s a) × ((x : ℕ) → count x (next_at s a ∷ t') ≡ count x (a ∷ t))
ring-step s a [] h = ([], rw h.next h, λ x. rw h.next)
ring-step s a (b ∷ t) h = (t ++ a ∷ [], rw h.0.next (rotate s a [] b t h), λ x. rw h.0.next (rotate-count x a [] b t))

-- the round from any member
pub ring-at : (s : List ℕ) (a : ℕ) (t : List ℕ) (f : ℕ) → Links s a t a → 0 < count f (a ∷ t)
    → (t' : List ℕ) × Links s f t' f × ((x : ℕ) → count x (f ∷ t') ≡ count x (a ∷ t))
ring-at s a t f h k =
    ⊎_elim (λ e. rw e.0 (t, h, λ x. refl))
    (λ e. let m = member-split f t (omega (arith, e)) in (
      m.1 ++ a ∷ m.0,
      rotate s a m.0 f m.1 (rw m.2 at h),
      λ x. rotate-count x a m.0 f m.1 ∙ ap (λ (l : List ℕ). count x (a ∷ l)) (sym m.2),
    ))
    (hit-cases f a)

pub ring-next : (s : List ℕ) (a : ℕ) (t : List ℕ) (f : ℕ) → Links s a t a → 0 < count f (a ∷ t)
    → (t' : List ℕ) × Links s (next_at s f) t' (next_at s f) × ((x : ℕ) → count x (next_at s f ∷ t') ≡ count x (a ∷ t))
ring-next s a t f h k =
    let m = ring-at s a t f h k in
    let r = ring-step s f m.0 m.1 in
    (r.0, r.1, λ x. r.2 x ∙ m.2 x)

-- what leads to the end of links is among them
pub links-last : (s : List ℕ) (a : ℕ) (t : List ℕ) (z : ℕ) → Links s a t z → 0 < count (last_at s z) (a ∷ t)
links-last s a [] z h = omega (arith, hit-eq (last_at s z) a h.last)
links-last s a (b ∷ t) z h = omega (arith, links-last s b t z h.1)

-- what follows a member of a round is a member
pub links-first : (s : List ℕ) (a : ℕ) (t : List ℕ) → Links s a t a → 0 < count (next_at s a) (a ∷ t)
links-first s a [] h = omega (arith, hit-eq (next_at s a) a h.next)
links-first s a (b ∷ t) h = omega (arith, hit-eq (next_at s a) b h.0.next)

-- links by the fields that they read
pub links-fields : (s s' : List ℕ) (a : ℕ) (t : List ℕ) (z : ℕ) → Links s a t z
    → ((x : ℕ) → 0 < count x (a ∷ t) → next_at s' x ≡ next_at s x) → ((x : ℕ) → 0 < count x t → last_at s' x ≡ last_at s x) → last_at s' z ≡ last_at s z
    → Links s' a t z
links-fields s s' a [] z h e f k = record { next = e a (omega (arith, hit_same a)) ∙ h.next; last = k ∙ h.last }
links-fields s s' a (b ∷ t) z h e f k = (
  record { next = e a (omega (arith, hit_same a)) ∙ h.0.next; last = f b (omega (arith, hit_same b)) ∙ h.0.last },
  links-fields s s' b t z h.1 (λ x w. e x (omega arith)) (λ x w. f x (omega arith)) k,
)

-- a list is empty or has a last member
pub snoc-cases : (t : List ℕ) → (t ≡ []) ⊎ ((us : List ℕ) × (e : ℕ) × (t ≡ us ++ e ∷ []))
snoc-cases [] = inl refl
snoc-cases (a ∷ t) =
    ⊎_elim (λ e. inr ([], a, ap (λ (l : List ℕ). a ∷ l) e)) (λ r. inr (a ∷ r.0, r.1, ap (λ (l : List ℕ). a ∷ l) r.2)) (snoc-cases t)
