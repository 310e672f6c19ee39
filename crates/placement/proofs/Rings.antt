-- The ring as a list: read from another member, and one list only from each.
use Prim.Native.Nat.{ℕ, ◌≤◌}
use mathlib.Core.Path.{◌≡◌, refl, sym, ◌∙◌, ap}
use mathlib.Core.List.{List, [], ◌∷◌, ◌++◌, append-nil}
use native.Mathlib.Omega.{arith}
use Rattle.segment.specs.State.{rover, blockptr}
use Rattle.segment.specs.Blocks.{next_at, dummy}
use Rattle.storage.specs.Heap.{Block, over, frees, count, Links, Heap}
use Rattle.storage_theorems.proofs.Counts.{hit_same, hit-eq}
use Rattle.storage_theorems.proofs.Ring.{rotate, ring-at}
use Rattle.storage_theorems.proofs.Search.{ring-once}
use Rattle.placement.specs.Placement.{RingFrom}

-- links from one place to another lead through one list only
pub links-one : (s : List ℕ) (a z : ℕ) (t u : List ℕ) → Links s a t z → Links s a u z → count z t ≡ 0 → count z u ≡ 0 → t ≡ u
links-one s a z [] [] h k p q = refl
links-one s a z [] (c ∷ u) h k p q = absurd (omega (arith, q, hit-eq z c (sym h.next ∙ k.0.next)))
links-one s a z (b ∷ t) [] h k p q = absurd (omega (arith, p, hit-eq z b (sym k.next ∙ h.0.next)))
links-one s a z (b ∷ t) (c ∷ u) h k p q =
    let e : b ≡ c = sym h.0.next ∙ k.0.next in
    let k' : Links s b u z = rw (sym e) at k.1 in
    let r : t ≡ u = links-one s b z t u h.1 k' (omega (arith, p)) (omega (arith, q)) in
    rw (e, r)

pub ring-one : {s : List ℕ} {a : ℕ} {l m : List ℕ} → RingFrom s a l → RingFrom s a m → l ≡ m
ring-one {s} {a} {l} {m} h k =
    let p : count a h.others ≡ 0 = omega (arith, h.once a, ap (count a) h.starts, hit_same a) in
    let q : count a k.others ≡ 0 = omega (arith, k.once a, ap (count a) k.starts, hit_same a) in
    h.starts ∙ ap (λ (u : List ℕ). a ∷ u) (links-one s a a h.others k.others h.links k.links p q) ∙ sym k.starts

-- a list whose members are linked in a round, from its first
abbrev pub Round : List ℕ → List ℕ → Type 0
Round s [] = ⊥
Round s (a ∷ t) = Links s a t a

pub round-turn : (s l m : List ℕ) → Round s (l ++ m) → Round s (m ++ l)
round-turn s [] m h = rw (append-nil m) h
round-turn s (a ∷ us) [] h = rw (append-nil us) at h
round-turn s (a ∷ us) (b ∷ vs) h = rotate s a us b vs h

pub ring-from : {s : List ℕ} (a : ℕ) (t : List ℕ) → Links s a t a → ((x : ℕ) → count x (a ∷ t) ≤ 1) → RingFrom s a (a ∷ t)
ring-from a t h one = record { others = t; starts = refl; links = h; once = one }

pub ring-starting : {s l : List ℕ} (a : ℕ) (t : List ℕ) → Round s l → l ≡ a ∷ t → ((x : ℕ) → count x l ≤ 1) → RingFrom s a l
ring-starting {s} {l} a t h e one = record { others = t; starts = e; links = rw e at h; once = one }

-- the links of a ring
pub ring-links : {s : List ℕ} {a : ℕ} {t : List ℕ} → RingFrom s a (a ∷ t) → Links s a t a
ring-links {s} {a} {t} h = let e : h.others ≡ t = cc h.starts in rw e at h.links

-- the ring from NEXT of a member is the rest of the ring and that member
pub round-next : (s : List ℕ) (a : ℕ) (l : List ℕ) → Links s a l a → (others : List ℕ) × (l ++ a ∷ [] ≡ next_at s a ∷ others)
round-next s a [] h = ([], rw h.next)
round-next s a (b ∷ l) h = (l ++ a ∷ [], rw h.0.next)

module _ {s : List ℕ} {bs : List Block} {t : List ℕ} (g : Heap s bs t) where
  pub heap-ring : RingFrom s (rover s) (rover s ∷ t)
  heap-ring = ring-from (rover s) t g.links (ring-once g)

  -- the dummy stands behind the last block, and is in the ring
  pub dummy-is : dummy s ≡ over (blockptr s) bs
  dummy-is = omega (arith, g.top)

  turned : (u : List ℕ) × Links s (over (blockptr s) bs) u (over (blockptr s) bs)
      × ((x : ℕ) → count x (over (blockptr s) bs ∷ u) ≡ count x (rover s ∷ t))
  turned = ring-at s (rover s) t (over (blockptr s) bs) g.links
      (omega (arith, g.once (over (blockptr s) bs), hit_same (over (blockptr s) bs)))

  from-dummy : RingFrom s (over (blockptr s) bs) (over (blockptr s) bs ∷ turned.0)
  from-dummy = ring-from _ turned.0 turned.1 (λ x. omega (arith, turned.2 x, ring-once g x))

  pub dummy-ring : (members : List ℕ) × RingFrom s (dummy s) (dummy s ∷ members)
  dummy-ring = (turned.0, rw dummy-is from-dummy)

  -- the members of the ring read from the dummy
  pub dummy-members : (members : List ℕ) → RingFrom s (over (blockptr s) bs) (over (blockptr s) bs ∷ members) → (x : ℕ)
      → count x (over (blockptr s) bs ∷ members) ≡ count x (over (blockptr s) bs ∷ frees (blockptr s) bs)
  dummy-members members h x = ap (count x) (ring-one h from-dummy) ∙ turned.2 x ∙ g.once x
