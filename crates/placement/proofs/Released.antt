-- A release, by its four ways: what becomes of the ring read from the dummy, and of ROVER.
use Prim.Native.Nat.{ℕ, ◌+◌, ◌%◌, ◌^◌, ◌<◌, ◌≤◌}
use mathlib.Core.Path.{◌≡◌, refl, sym, ◌∙◌, ap, subst}
use mathlib.Core.Bool.{true, false}
use mathlib.Core.List.{List, [], ◌∷◌, ◌++◌}
use mathlib.Core.Logic.{⊎_elim}
use native.Mathlib.Omega.{arith}
use lib.ListN.{get_or}
use borrow.Author.Tests.{leb-false}
use Rattle.segment.specs.State.{blockptr}
use Rattle.segment.specs.Blocks.{free_at, prev_free_at, slop_at, size_at, dummy}
use Rattle.storage.specs.Release.{release, join_both, join_before, join_after, join_none}
use Rattle.storage.specs.Heap.{Block, Walk, over, frees, hit, count, Links, Heap, free, array}
use Rattle.storage.specs.Owned.{ArrayIn}
use Rattle.storage_theorems.proofs.Walks.{over-le, walk_at}
use Rattle.storage_theorems.proofs.Counts.{hit-cases, hit_same, count-append, over-append, frees-count, free-split, member-split}
use Rattle.storage_theorems.proofs.Search.{members-once}
use Rattle.storage_theorems.proofs.JoinBoth.{both-links, both-moves}
use Rattle.storage_theorems.proofs.JoinBefore.{before-links, before-rover}
use Rattle.storage_theorems.proofs.JoinAfter.{after-links, after-moves, after-apart}
use Rattle.storage_theorems.proofs.JoinNone.{none-links, none-rover, none_apart}
use Rattle.storage_theorems.proofs.Request.{free-size}
use Rattle.storage_theorems.proofs.Release.{Way, both, before, after, none, way}
use Rattle.placement.specs.Placement.{RingFrom, IsFree, FreeBefore, behind, InPlaceOf, Released, joins_both, joins_earlier, joins_later, joins_none}
use Rattle.placement.proofs.Rings.{Round, round-turn, ring-from, ring-links, dummy-is, dummy-members}

-- behind a free block PREVFREE is set
walk-prev : (s : List ℕ) (a : ℕ) (ws : List Block) → Walk s a true ws → over a ws < 2 ^ 16 → 2 ^ 30 ≤ get_or s a 0 % 2 ^ 31
walk-prev s a [] h l = omega (arith, h)
walk-prev s a (free n ∷ ws) h l = let z : ◌≡◌ {A = ℕ} 0 1 = cc h.0.alone in absurd (omega arith)
walk-prev s a (array z k ∷ ws) h l = omega (arith, h.0.first, h.0.small, l, over-le (a + (z + k)) ws)

-- a list with something in it has a first member
first_of : (l : List ℕ) (a : ℕ) (m : List ℕ) → (b : ℕ) × (vs : List ℕ) × (l ++ a ∷ m ≡ b ∷ vs)
first_of [] a m = (a, m, refl)
first_of (b ∷ l) a m = (b, l ++ a ∷ m, refl)

module _ {s : List ℕ} {bs : List Block} {t : List ℕ} (g : Heap s bs t) where
  low : over (blockptr s) bs < 2 ^ 16
  low = omega (arith, g.top, g.room, g.short)

  -- no free block ends where PREVFREE is clear, and none starts where bit 31 is
  none_before : (x : ℕ) → prev_free_at s x ≡ false → (p : ℕ) → FreeBefore s bs p x → ⊥
  none_before x f p h = let r = free-split (blockptr s) bs p h.0 in go r.0 r.1 r.2 r.3 r.4
    where
      go : (us : List Block) (n : ℕ) (ws : List Block) → bs ≡ us ++ free n ∷ ws → over (blockptr s) us ≡ p → ⊥
      go us n ws e q =
          let g' : Heap s (us ++ free n ∷ ws) t = rw e at g in
          let w = walk_at s (blockptr s) false us (free n ∷ ws) g'.walk in
          let y : over (blockptr s) us + n ≡ x = omega (arith, q, h.1, free-size us n ws g', ap (size_at s) q) in
          let o : over (over (blockptr s) us + n) ws < 2 ^ 16 = omega (arith, low, ap (over (blockptr s)) e, over-append (blockptr s) us (free n ∷ ws)) in
          let v : 2 ^ 30 ≤ get_or s x 0 % 2 ^ 31 = subst (λ (i : ℕ). 2 ^ 30 ≤ get_or s i 0 % 2 ^ 31) y (walk-prev s _ ws w.1.1 o) in
          omega (arith, v, leb-false (2 ^ 30) (get_or s x 0 % 2 ^ 31) f)

  none-behind : (q : ℕ) → free_at s q ≡ false → IsFree s bs q → ⊥
  none-behind q f h = let r = free-split (blockptr s) bs q h in go r.0 r.1 r.2 r.3 r.4
    where
      go : (us : List Block) (n : ℕ) (ws : List Block) → bs ≡ us ++ free n ∷ ws → over (blockptr s) us ≡ q → ⊥
      go us n ws e o =
          let g' : Heap s (us ++ free n ∷ ws) t = rw e at g in
          let w = walk_at s (blockptr s) false us (free n ∷ ws) g'.walk in
          let v : get_or s q 0 ≡ 2 ^ 31 + n = subst (λ (i : ℕ). get_or s i 0 ≡ 2 ^ 31 + n) o w.1.0.first in
          omega (arith, v, leb-false (2 ^ 31) (get_or s q 0) f)

  -- the ring read from the dummy
  module _ (members : List ℕ) (ring : RingFrom s (over (blockptr s) bs) (over (blockptr s) bs ∷ members)) where
    abbrev end : ℕ
    end = over (blockptr s) bs

    links : Links s end members end
    links = ring-links ring

    counts : (x : ℕ) → count x (end ∷ members) ≡ count x (end ∷ frees (blockptr s) bs)
    counts = dummy-members g members ring

    -- a block that joins one which is no member
    once_more : (x : ℕ) → count x (end ∷ frees (blockptr s) bs) ≡ 0 → (y : ℕ) → hit y x + count y (end ∷ members) ≤ 1
    once_more x n y =
        ⊎_elim (λ i. subst (λ (w : ℕ). hit w x + count w (end ∷ members) ≤ 1) (sym i.0) (omega (arith, n, counts x, hit_same x))) (λ i. omega (arith, i, counts y, members-once g y)) (hit-cases y x)

    member : (q : ℕ) → IsFree s bs q → (us : List ℕ) × (vs : List ℕ) × (members ≡ us ++ q ∷ vs)
    member q h = member-split q members (omega (arith, counts q, h))

    module _ (q : ℕ) (us vs : List ℕ) (o : members ≡ us ++ q ∷ vs) where
      parts : (y : ℕ) → count y members ≡ count y us + (hit y q + count y vs)
      parts y = ap (count y) o ∙ count-append y us (q ∷ vs)

      -- what holds of every round from the member `q` holds of the one that goes on to the dummy
      at-q : (P : List ℕ → Type 0)
          → ((b : ℕ) (ws : List ℕ) → Links s q (b ∷ ws) q → ((y : ℕ) → count y (q ∷ b ∷ ws) ≡ count y (end ∷ frees (blockptr s) bs)) → P (b ∷ ws))
          → P (vs ++ end ∷ us)
      at-q P h =
          let w = first_of vs end us in
          let l : Links s q (vs ++ end ∷ us) q = round-turn s (end ∷ us) (q ∷ vs) (subst (λ (m : List ℕ). Links s end m end) o links) in
          subst P (sym w.2)
          (h w.0 w.1 (subst (λ (m : List ℕ). Links s q m q) w.2 l)
          (λ y. ap (λ (m : List ℕ). count y (q ∷ m)) (sym w.2) ∙ omega (arith, counts y, parts y, count-append y vs (end ∷ us))))

-- both neighbours are free
module _ {s t : List ℕ} (xs : List Block) (m z k n : ℕ) (ys : List Block) (g : Heap s (xs ++ free m ∷ array z k ∷ free n ∷ ys) t) where
  abbrev p : ℕ
  p = over (blockptr s) xs

  abbrev q : ℕ
  q = p + m + (z + k)

  abbrev bs : List Block
  bs = xs ++ free m ∷ array z k ∷ free n ∷ ys

  abbrev end1 : ℕ
  end1 = over (blockptr s) bs

  module _ (f : (size_at s (p + m) ≡ z) × (slop_at s (p + m) ≡ k)) (e : release s (p + m) ≡ join_both s p (m + (z + k)) q) (members : List ℕ)
      (ring : RingFrom s end1 (end1 ∷ members)) where
    q-free : IsFree s bs q
    q-free = omega (arith, hit_same q, frees-count q (blockptr s) xs (free m ∷ array z k ∷ free n ∷ ys))

    both-place : InPlaceOf s (join_both s p (m + (z + k)) q) members q []
    both-place = let w = member g members ring q q-free in go w.0 w.1 w.2
      where
        go : (us vs : List ℕ) → members ≡ us ++ q ∷ vs → InPlaceOf s (join_both s p (m + (z + k)) q) members q []
        go us vs o = record {
          earlier = us;
          later = vs;
          was = o;
          is = rw (dummy-is g)
              (ring-from end1 (us ++ vs) (round-turn _ vs (end1 ∷ us) (at-q g members ring q us vs o (Round _) (both-links xs m z k n ys g)))
              (λ y. omega (arith, counts g members ring y, members-once g y, parts g members ring q us vs o y, count-append y us vs)));
        }

    both-released : Released s bs (p + m) members
    both-released =
        let b : behind s (p + m) ≡ q = omega (arith, f) in
        let v = both-moves xs m z k n ys g in
        joins_both p
        (omega (arith, hit_same p, frees-count p (blockptr s) xs (free m ∷ array z k ∷ free n ∷ ys)), rw (free-size xs m _ g))
        (rw b q-free) (rw (e, b) both-place) (rw (e, b) (record { moved = v.0; stays = v.1 }))

-- the one before is
module _ {s t : List ℕ} (xs : List Block) (m z k : ℕ) (ys : List Block) (g : Heap s (xs ++ free m ∷ array z k ∷ ys) t)
    (f : (size_at s (over (blockptr s) xs + m) ≡ z) × (slop_at s (over (blockptr s) xs + m) ≡ k))
    (h : free_at s (over (blockptr s) xs + m + (z + k)) ≡ false)
    (e : release s (over (blockptr s) xs + m) ≡ join_before s (over (blockptr s) xs) (m + (z + k)) (over (blockptr s) xs + m + (z + k)))
    (members : List ℕ)
    (ring : RingFrom s (over (blockptr s) (xs ++ free m ∷ array z k ∷ ys)) (over (blockptr s) (xs ++ free m ∷ array z k ∷ ys) ∷ members)) where
  before-released : Released s (xs ++ free m ∷ array z k ∷ ys) (over (blockptr s) xs + m) members
  before-released =
      let p = over (blockptr s) xs in
      let b : behind s (over (blockptr s) xs + m) ≡ over (blockptr s) xs + m + (z + k) = omega (arith, f) in
      joins_earlier p
      (omega (arith, hit_same p, frees-count p (blockptr s) xs (free m ∷ array z k ∷ ys)), rw (free-size xs m _ g))
      (λ i. none-behind g (p + m + (z + k)) h (rw b at i))
      (rw (e, dummy-is g)
      (ring-from _ members (before-links xs m z k ys g h _ members (links g members ring) (counts g members ring))
      (λ y. omega (arith, counts g members ring y, members-once g y))))
      (rw e (before-rover xs m z k ys g h))

-- the one behind is
module _ {s t : List ℕ} (xs : List Block) (z k n : ℕ) (ys : List Block) (g : Heap s (xs ++ array z k ∷ free n ∷ ys) t) where
  abbrev x : ℕ
  x = over (blockptr s) xs

  abbrev q' : ℕ
  q' = x + (z + k)

  abbrev bs' : List Block
  bs' = xs ++ array z k ∷ free n ∷ ys

  abbrev end2 : ℕ
  end2 = over (blockptr s) bs'

  module _ (f : (size_at s x ≡ z) × (slop_at s x ≡ k)) (c : prev_free_at s x ≡ false) (e : release s x ≡ join_after s x (z + k) q') (members : List ℕ)
      (ring : RingFrom s end2 (end2 ∷ members)) where
    q-free' : IsFree s bs' q'
    q-free' = omega (arith, hit_same q', frees-count q' (blockptr s) xs (array z k ∷ free n ∷ ys))

    after-place : InPlaceOf s (join_after s x (z + k) q') members q' (x ∷ [])
    after-place = let w = member g members ring q' q-free' in go w.0 w.1 w.2
      where
        go : (us vs : List ℕ) → members ≡ us ++ q' ∷ vs → InPlaceOf s (join_after s x (z + k) q') members q' (x ∷ [])
        go us vs o = record {
          earlier = us;
          later = vs;
          was = o;
          is = rw (dummy-is g)
              (ring-from end2 (us ++ x ∷ vs)
              (round-turn (join_after s x (z + k) q') (x ∷ vs) (end2 ∷ us)
              (at-q g members ring q' us vs o (λ (l : List ℕ). Links (join_after s x (z + k) q') x l x) (after-links xs z k n ys g c)))
              (λ y. omega (arith, once_more g members ring x (after-apart xs z k n ys g c) y, parts g members ring q' us vs o y, count-append y us (x ∷ vs))));
        }

    after-released : Released s bs' x members
    after-released =
        let b : behind s x ≡ q' = omega (arith, f) in
        let v = after-moves xs z k n ys g c in
        joins_later (none_before g x c) (rw b q-free') (rw (e, b) after-place) (rw (e, b) (record { moved = v.0; stays = v.1 }))

-- none is
module _ {s t : List ℕ} (xs : List Block) (z k : ℕ) (ys : List Block) (g : Heap s (xs ++ array z k ∷ ys) t)
    (f : (size_at s (over (blockptr s) xs) ≡ z) × (slop_at s (over (blockptr s) xs) ≡ k)) (o : prev_free_at s (over (blockptr s) xs) ≡ false)
    (h : free_at s (over (blockptr s) xs + (z + k)) ≡ false)
    (e : release s (over (blockptr s) xs) ≡ join_none s (over (blockptr s) xs) (z + k) (over (blockptr s) xs + (z + k)))
    (members : List ℕ)
    (ring : RingFrom s (over (blockptr s) (xs ++ array z k ∷ ys)) (over (blockptr s) (xs ++ array z k ∷ ys) ∷ members)) where
  none-released : Released s (xs ++ array z k ∷ ys) (over (blockptr s) xs) members
  none-released =
      let b : behind s (over (blockptr s) xs) ≡ over (blockptr s) xs + (z + k) = omega (arith, f) in
      joins_none (none_before g (over (blockptr s) xs) o)
      (λ i. none-behind g (over (blockptr s) xs + (z + k)) h (rw b at i))
      (rw (e, dummy-is g)
      (ring-from _ _ (none-links xs z k ys g o h members (links g members ring) (counts g members ring))
      (λ y. omega (arith, once_more g members ring (over (blockptr s) xs) (none_apart xs z k ys g o h) y))))
      (rw e (none-rover xs z k ys g o h))

released-way : {s t : List ℕ} {bs : List Block} {x : ℕ} → Way s t bs x → (members : List ℕ)
    → RingFrom s (over (blockptr s) bs) (over (blockptr s) bs ∷ members) → Released s bs x members
released-way (both xs m z k n ys g f e) = both-released xs m z k n ys g f e
released-way (before xs m z k ys g f h e) = before-released xs m z k ys g f h e
released-way (after xs z k n ys g f o e) = after-released xs z k n ys g f o e
released-way (none xs z k ys g f o h e) = none-released xs z k ys g f o h e

pub released : {s : List ℕ} {bs : List Block} {t : List ℕ} → Heap s bs t → (x size : ℕ) → ArrayIn (blockptr s) bs x size → (members : List ℕ)
    → RingFrom s (dummy s) (dummy s ∷ members) → Released s bs x members
released g x size u members ring = released-way (way g x size u) members (rw (dummy-is g) at ring)
