-- Test 15 passes exactly where there is a ring.
use Prim.Native.Nat.{ℕ, zero, suc, ◌-◌, ◌<◌, ◌≤◌}
use mathlib.Core.Path.{◌≡◌, refl, sym, ◌∙◌}
use mathlib.Core.Bool.{Bool, true, false}
use mathlib.Core.List.{List, [], ◌∷◌}
use native.Mathlib.Omega.{arith}
use lib.ListN.{length}
use lib.Dec.{leb}
use borrow.Author.Tests.{leb-true, leb-false, eqb-true, le-leb, eq-eqb}
use Rattle.segment.specs.State.{rover}
use Rattle.segment.specs.Blocks.{next_at, dummy}
use Rattle.storage.specs.Heap.{count, Link, Links}
use Rattle.storage_theorems.proofs.Counts.{hit_same, count-length}
use Rattle.storage_theorems.proofs.Ring.{ring-at}
use Rattle.acceptance_storage.specs.Blocks.{free_starts}
use Rattle.acceptance_storage.specs.Ring.{without, linked, round_from, ring_test}
use Rattle.descriptor.proofs.Truth.{by-eq}
use Rattle.acceptance_storage.proofs.Tests.{never, both}
use Rattle.acceptance_storage.proofs.Rounds.{without-count, without-length, none-counted, linked-yes, linked-no, step-last, step-bad, step-missing, step-on, on-round}

link-sound : (s : List ℕ) (a b : ℕ) → linked s a b ≡ true → Link s a b
link-sound s a b h =
    by-eq (next_at s a) b (λ e. record { next = e; last = eqb-true _ _ (sym (linked-yes s a b e) ∙ h) })
    (λ e. absurd (never (sym (linked-no s a b e) ∙ h)))

link-complete : (s : List ℕ) (a b : ℕ) → Link s a b → linked s a b ≡ true
link-complete s a b k = linked-yes s a b k.next ∙ eq-eqb _ _ k.last

-- the members that the round passes
unfoldable pub Rounded : List ℕ → ℕ → ℕ → List ℕ → Type 0
Rounded s end a l = (ring : List ℕ) × Links s a ring end × ((x : ℕ) → count x ring ≡ count x l)

round-sound : (n : ℕ) (s : List ℕ) (end a : ℕ) (l : List ℕ) → length l ≡ n → round_from n s end a l ≡ true → Rounded s end a l
unfolding Rounded
round-sound zero s end a l e h = ([], link-sound s a end (sym (step-last s end a l 0 (omega arith)) ∙ h), λ x. sym (none-counted l e x))
round-sound (suc n) s end a l e h = go (linked s a (next_at s a)) refl (leb 1 (count (next_at s a) l)) refl (round-sound n s end (next_at s a) (without (next_at s a) l))
  where
    go : (t : Bool) → linked s a (next_at s a) ≡ t → (u : Bool) → leb 1 (count (next_at s a) l) ≡ u
        → (length (without (next_at s a) l) ≡ n → round_from n s end (next_at s a) (without (next_at s a) l) ≡ true → (ring : List ℕ) × Links s (next_at s a) ring end × ((x : ℕ) → count x ring ≡ count x (without (next_at s a) l)))
        → (ring : List ℕ) × Links s a ring end × ((x : ℕ) → count x ring ≡ count x l)
    go false p u q r = absurd (never (sym (step-bad s end a l (suc n) (omega arith) p) ∙ h))
    go true p false q r = absurd (never (sym (step-missing s end a l (suc n) (omega arith) p (omega (arith, leb-false 1 (count (next_at s a) l) q))) ∙ h))
    go true p true q r =
        let m : 0 < count (next_at s a) l = omega (arith, leb-true 1 (count (next_at s a) l) q) in
        let z : suc n - 1 ≡ n = omega arith in
        let k = r (omega (arith, without-length (next_at s a) l m)) (rw z at (sym (step-on s end a l (suc n) (omega arith) p m) ∙ h)) in
        (next_at s a ∷ k.0, (link-sound s a (next_at s a) p, k.1), λ x. omega (arith, k.2 x, without-count x (next_at s a) l m))

round-complete : (s : List ℕ) (end a : ℕ) (ring l : List ℕ) → Links s a ring end → ((x : ℕ) → count x ring ≡ count x l) → round_from (length l) s end a l ≡ true
round-complete s end a [] l h e = step-last s end a l (length l) (omega (arith, count-length [] l e)) ∙ link-complete s a end h
round-complete s end a (b ∷ ring) l h e =
    let q : next_at s a ≡ b = h.0.next in
    let m : 0 < count b l = omega (arith, e b, hit_same b) in
    let w = without-length b l m in
    let p : length l - 1 ≡ length (without b l) = omega arith in
    step-on s end a l (length l) (omega arith) (rw q (link-complete s a b h.0)) (rw q m)
    ∙ rw (q, p) (round-complete s end b ring (without b l) h.1 (λ x. omega (arith, e x, without-count x b l m)))

-- a ring from ROVER through the dummy and the free blocks, each once
unfoldable pub Ringed : List ℕ → Type 0
Ringed s = (ring : List ℕ) × Links s (rover s) ring (rover s) × ((x : ℕ) → count x (rover s ∷ ring) ≡ count x (dummy s ∷ free_starts s))

pub ring-sound : (s : List ℕ) → ring_test s ≡ true → Ringed s
unfolding Ringed Rounded ring_test
ring-sound s h =
    let b = both (round_from (length (free_starts s)) s (dummy s) (dummy s) (free_starts s)) _ h in
    let r = round-sound (length (free_starts s)) s (dummy s) (dummy s) (free_starts s) refl b.0 in
    let m : 1 ≤ count (rover s) (dummy s ∷ free_starts s) = leb-true _ _ b.1 in
    let k = ring-at s (dummy s) r.0 (rover s) r.1 (omega (arith, r.2 (rover s))) in
    (k.0, k.1, λ x. omega (arith, k.2 x, r.2 x))

pub ring-complete : (s : List ℕ) → Ringed s → ring_test s ≡ true
unfolding Ringed
ring-complete s r =
    let k = ring-at s (rover s) r.0 (dummy s) r.1 (omega (arith, r.2 (dummy s), hit_same (dummy s))) in
    on-round s (le-leb 1 (count (rover s) (dummy s ∷ free_starts s)) (omega (arith, r.2 (rover s), hit_same (rover s))))
    ∙ round-complete s (dummy s) (dummy s) k.0 (free_starts s) k.1 (λ x. omega (arith, k.2 x, r.2 x))
