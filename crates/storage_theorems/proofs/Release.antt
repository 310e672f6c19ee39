-- A release of an array: the theorem of specs/Release.
use Prim.Native.Nat.{ℕ, ◌+◌, ◌-◌, ◌%◌, ◌^◌, ◌<◌, ◌≤◌}
use mathlib.Core.Path.{◌≡◌, refl, ◌∙◌, ap}
use mathlib.Core.Bool.{Bool, true, false}
use mathlib.Core.List.{List, [], ◌∷◌, ◌++◌, append_assoc}
use mathlib.Core.Logic.{◌⊎◌, inl, inr, ⊎_elim}
use native.Mathlib.Omega.{arith}
use lib.ListN.{get_or}
use borrow.Author.Tests.{leb-true}
use Rattle.segment.specs.State.{blockptr}
use Rattle.segment.specs.Blocks.{free_at, prev_free_at, slop_at, size_at, span_at}
use Rattle.storage.specs.Release.{join_both, join_before, join_after, join_none, release}
use Rattle.storage.specs.Heap.{Block, span, is_free, ArrayBlock, Walk, over, Heap, free, array}
use Rattle.storage.specs.Owned.{ArrayIn}
use Rattle.storage_theorems.specs.Words.{Leaves}
use Rattle.storage_theorems.specs.Release.{Freed, Release, joins_both, joins_before, joins_after, joins_none}
use Rattle.descriptor.proofs.Truth.{decide}
use Rattle.storage.proofs.Releases.{release-both, release-before, release-after, release-none}
use Rattle.storage_theorems.proofs.Walks.{over-le, walk_at}
use Rattle.storage_theorems.proofs.Counts.{over-append}
use Rattle.storage_theorems.proofs.Arrays.{array-split, array-fields}
use Rattle.storage_theorems.proofs.JoinBefore.{before-heap, before-leaves}
use Rattle.storage_theorems.proofs.JoinNone.{none-heap, none-leaves}
use Rattle.storage_theorems.proofs.JoinAfter.{after-heap, after-leaves}
use Rattle.storage_theorems.proofs.JoinBoth.{both-heap, both-leaves}
use Rattle.storage_theorems.proofs.Freed.{freed-further, freed-words, freed-rest, freed-back}

-- the block before a place of the walk
last_block : (s : List ℕ) (a : ℕ) (p : Bool) (b : Block) (xs ys : List Block) → Walk s a p (b ∷ xs ++ ys)
    → ((vs : List Block) × (m : ℕ) × (b ∷ xs ≡ vs ++ free m ∷ [])) ⊎ Walk s (over (a + span b) xs) false ys
last_block s a p (free m) [] ys h = inl ([], m, refl)
last_block s a p (array z k) [] ys h = inr h.1
last_block s a p b (c ∷ xs) ys h =
    ⊎_elim (λ r. inl (b ∷ r.0, r.1, ap (λ (l : List Block). b ∷ l) r.2)) (λ r. inr r) (last_block s (a + span b) (is_free b) c xs ys h.1)

walk-last : (s : List ℕ) (a : ℕ) (xs ys : List Block) → Walk s a false (xs ++ ys)
    → ((vs : List Block) × (m : ℕ) × (xs ≡ vs ++ free m ∷ [])) ⊎ Walk s (over a xs) false ys
walk-last s a [] ys h = inr h
walk-last s a (b ∷ xs) ys h = last_block s a false b xs ys h

-- a free block behind a place of the walk
next-free : (s : List ℕ) (e : ℕ) (p : Bool) (ys : List Block) → Walk s e p ys → over e ys < 2 ^ 16 → free_at s e ≡ true
    → (m : ℕ) × (vs : List Block) × (ys ≡ free m ∷ vs)
next-free s e true [] h l f = absurd (omega (arith, h, leb-true (2 ^ 31) (get_or s e 0) f))
next-free s e false [] h l f = absurd (omega (arith, h, leb-true (2 ^ 31) (get_or s e 0) f))
next-free s e p (free m ∷ vs) h l f = (m, vs, refl)
next-free s e true (array z k ∷ vs) h l f =
    absurd (omega (arith, h.0.first, h.0.small, over-le (e + (z + k)) vs, leb-true (2 ^ 31) (get_or s e 0) f))
next-free s e false (array z k ∷ vs) h l f =
    absurd (omega (arith, h.0.first, h.0.small, over-le (e + (z + k)) vs, leb-true (2 ^ 31) (get_or s e 0) f))

array-before : (s : List ℕ) (a z k : ℕ) → ArrayBlock s a false z k → z < 2 ^ 16 → prev_free_at s a ≡ true → ⊥
array-before s a z k h l f = omega (arith, h.first, h.small, leb-true (2 ^ 30) (get_or s a 0 % 2 ^ 31) f)

-- a release, by what the walk tells of the block
module _ (s : List ℕ) (a n : ℕ) (sp : span_at s a ≡ n) where
  is-both : (m p : ℕ) → size_at s (a - 1) ≡ m → a - m ≡ p → prev_free_at s a ≡ true → free_at s (a + n) ≡ true
      → release s a ≡ join_both s p (m + n) (a + n)
  is-both m p pz pa f h = release-both s a f (rw sp h) ∙ rw (sp, pz, pa)

  is-before : (m p : ℕ) → size_at s (a - 1) ≡ m → a - m ≡ p → prev_free_at s a ≡ true → free_at s (a + n) ≡ false
      → release s a ≡ join_before s p (m + n) (a + n)
  is-before m p pz pa f h = release-before s a f (rw sp h) ∙ rw (sp, pz, pa)

  is-after : prev_free_at s a ≡ false → free_at s (a + n) ≡ true → release s a ≡ join_after s a n (a + n)
  is-after f h = release-after s a f (rw sp h) ∙ rw sp

  is_none : prev_free_at s a ≡ false → free_at s (a + n) ≡ false → release s a ≡ join_none s a n (a + n)
  is_none f h = release-none s a f (rw sp h) ∙ rw sp

-- the four ways of a release, by the blocks around the array
pub data Way (s t : List ℕ) : List Block → ℕ → Type 0 where
  both : (xs : List Block) (m z k n : ℕ) (ys : List Block) → Heap s (xs ++ free m ∷ array z k ∷ free n ∷ ys) t
      → (size_at s (over (blockptr s) xs + m) ≡ z) × (slop_at s (over (blockptr s) xs + m) ≡ k)
      → release s (over (blockptr s) xs + m) ≡ join_both s (over (blockptr s) xs) (m + (z + k)) (over (blockptr s) xs + m + (z + k))
      → Way s t (xs ++ free m ∷ array z k ∷ free n ∷ ys) (over (blockptr s) xs + m)
  before : (xs : List Block) (m z k : ℕ) (ys : List Block) → Heap s (xs ++ free m ∷ array z k ∷ ys) t
      → (size_at s (over (blockptr s) xs + m) ≡ z) × (slop_at s (over (blockptr s) xs + m) ≡ k)
      → free_at s (over (blockptr s) xs + m + (z + k)) ≡ false
      → release s (over (blockptr s) xs + m) ≡ join_before s (over (blockptr s) xs) (m + (z + k)) (over (blockptr s) xs + m + (z + k))
      → Way s t (xs ++ free m ∷ array z k ∷ ys) (over (blockptr s) xs + m)
  after : (xs : List Block) (z k n : ℕ) (ys : List Block) → Heap s (xs ++ array z k ∷ free n ∷ ys) t
      → (size_at s (over (blockptr s) xs) ≡ z) × (slop_at s (over (blockptr s) xs) ≡ k)
      → prev_free_at s (over (blockptr s) xs) ≡ false
      → release s (over (blockptr s) xs) ≡ join_after s (over (blockptr s) xs) (z + k) (over (blockptr s) xs + (z + k))
      → Way s t (xs ++ array z k ∷ free n ∷ ys) (over (blockptr s) xs)
  none : (xs : List Block) (z k : ℕ) (ys : List Block) → Heap s (xs ++ array z k ∷ ys) t
      → (size_at s (over (blockptr s) xs) ≡ z) × (slop_at s (over (blockptr s) xs) ≡ k)
      → prev_free_at s (over (blockptr s) xs) ≡ false → free_at s (over (blockptr s) xs + (z + k)) ≡ false
      → release s (over (blockptr s) xs) ≡ join_none s (over (blockptr s) xs) (z + k) (over (blockptr s) xs + (z + k))
      → Way s t (xs ++ array z k ∷ ys) (over (blockptr s) xs)

-- the block before is free
module _ {s : List ℕ} {t : List ℕ} (xs : List Block) (m z k : ℕ) (ys : List Block) (g : Heap s (xs ++ free m ∷ array z k ∷ ys) t) where
  abbrev p : ℕ
  p = over (blockptr s) xs

  at : (o : Bool) × Walk s p o (free m ∷ array z k ∷ ys)
  at = walk_at s (blockptr s) false xs (free m ∷ array z k ∷ ys) g.walk

  place : (p + m + (z + k) ≤ over (p + m + (z + k)) ys) × (over (p + m + (z + k)) ys < 2 ^ 16)
  place = omega (arith, over-append (blockptr s) xs (free m ∷ array z k ∷ ys), over-le (p + m + (z + k)) ys, g.top, g.room, g.short)

  fields : (size_at s (p + m) ≡ z) × (slop_at s (p + m) ≡ k)
  fields = array-fields s (p + m) true z k at.1.1.0 (omega (arith, place))

  module _ (f : prev_free_at s (p + m) ≡ true) where
    way-before : free_at s (p + m + (z + k)) ≡ false → Way s t (xs ++ free m ∷ array z k ∷ ys) (p + m)
    way-before h =
        before xs m z k ys g fields h
        (is-before s (p + m) (z + k) (omega (arith, fields)) m p (omega (arith, place, at.1.0.end)) (omega arith) f h)

    way-both : (n : ℕ) (vs : List Block) → ys ≡ free n ∷ vs → free_at s (p + m + (z + k)) ≡ true → Way s t (xs ++ free m ∷ array z k ∷ ys) (p + m)
    way-both n vs q h =
        rw q
        (both xs m z k n vs (rw q at g) fields
        (is-both s (p + m) (z + k) (omega (arith, fields)) m p (omega (arith, place, at.1.0.end)) (omega arith) f h))

    way-front : Way s t (xs ++ free m ∷ array z k ∷ ys) (p + m)
    way-front =
        ⊎_elim (λ h. let r = next-free s (p + m + (z + k)) false ys at.1.1.1 place.1 h in way-both r.0 r.1 r.2 h) way-before
        (decide (free_at s (p + m + (z + k))))

-- it is not
module _ {s : List ℕ} {t : List ℕ} (xs : List Block) (z k : ℕ) (ys : List Block) (g : Heap s (xs ++ array z k ∷ ys) t) where
  abbrev a : ℕ
  a = over (blockptr s) xs

  at' : (o : Bool) × Walk s a o (array z k ∷ ys)
  at' = walk_at s (blockptr s) false xs (array z k ∷ ys) g.walk

  place' : (a + (z + k) ≤ over (a + (z + k)) ys) × (over (a + (z + k)) ys < 2 ^ 16)
  place' = omega (arith, over-append (blockptr s) xs (array z k ∷ ys), over-le (a + (z + k)) ys, g.top, g.room, g.short)

  fields' : (size_at s a ≡ z) × (slop_at s a ≡ k)
  fields' = array-fields s a at'.0 z k at'.1.0 (omega (arith, place'))

  module _ (f : prev_free_at s a ≡ false) where
    way-none : free_at s (a + (z + k)) ≡ false → Way s t (xs ++ array z k ∷ ys) a
    way-none h = none xs z k ys g fields' f h (is_none s a (z + k) (omega (arith, fields')) f h)

    way-after : (n : ℕ) (vs : List Block) → ys ≡ free n ∷ vs → free_at s (a + (z + k)) ≡ true → Way s t (xs ++ array z k ∷ ys) a
    way-after n vs q h = rw q (after xs z k n vs (rw q at g) fields' f (is-after s a (z + k) (omega (arith, fields')) f h))

    way-alone : Way s t (xs ++ array z k ∷ ys) a
    way-alone =
        ⊎_elim (λ h. let r = next-free s (a + (z + k)) false ys at'.1.1 place'.1 h in way-after r.0 r.1 r.2 h) way-none
        (decide (free_at s (a + (z + k))))

  front : (vs : List Block) (m : ℕ) → xs ≡ vs ++ free m ∷ [] → prev_free_at s a ≡ true → Way s t (xs ++ array z k ∷ ys) a
  front vs m e f =
      let o : over (blockptr s) xs ≡ over (blockptr s) vs + m = ap (over (blockptr s)) e ∙ over-append (blockptr s) vs (free m ∷ []) in
      let l : xs ++ array z k ∷ ys ≡ vs ++ free m ∷ array z k ∷ ys = ap (λ (v : List Block). v ++ array z k ∷ ys) e ∙ append_assoc vs (free m ∷ [])
      (array z k ∷ ys) in
      rw (l, o) (way-front vs m z k ys (rw l at g) (rw o at f))

  way-place : Way s t (xs ++ array z k ∷ ys) a
  way-place =
      ⊎_elim
      (λ f. ⊎_elim (λ r. front r.0 r.1 r.2 f) (λ w. absurd (array-before s a z k w.0 (omega (arith, place')) f))
      (walk-last s (blockptr s) xs (array z k ∷ ys) g.walk))
      way-alone (decide (prev_free_at s a))

pub way : {s : List ℕ} {bs : List Block} {t : List ℕ} → Heap s bs t → (x z : ℕ) → ArrayIn (blockptr s) bs x z → Way s t bs x
way {s} {bs} {t} g x z u = let p = array-split (blockptr s) bs x z u in go p.0 p.1 p.2 p.3 p.4
  where
    go : (xs : List Block) (k : ℕ) (ys : List Block) → bs ≡ xs ++ array z k ∷ ys → over (blockptr s) xs ≡ x → Way s t bs x
    go xs k ys e q = rw (e, ← q) (way-place xs z k ys (rw e at g))

-- the theorem from its parts
released : {s : List ℕ} {bs : List Block} {t : List ℕ} → Heap s bs t → (a z k : ℕ) (s' : List ℕ) (cs : List Block)
    → (size_at s a ≡ z) × (slop_at s a ≡ k) → release s a ≡ s'
    → (t' : List ℕ) × Heap s' cs t' → Leaves s s' cs → Freed a z k (blockptr s) bs cs → Release s bs a
released {s} {bs} g a z k s' cs n e r l f = record {
  blocks = cs;
  ring = r.0;
  heap = rw e r.1;
  freed = rw (n.0, n.1) f;
  words = λ i. let r = freed-words a z k (blockptr s) bs cs f i in
      (λ h. ⊎_elim (λ u. inl u) (λ u. inr (omega (arith, n, u))) (r.0 h), λ h. r.1 (⊎_elim (λ u. inl u) (λ u. inr (omega (arith, n, u))) h));
  others = λ y v. (λ h. freed-back s a z k (blockptr s) false bs cs g.walk f y v h, λ h. freed-rest a z k (blockptr s) bs cs f y v h.0 h.1);
  leaves = rw e l;
}

release-way : {s t : List ℕ} {bs : List Block} {x : ℕ} → Way s t bs x → Release s bs x
release-way (both xs m z k n ys g f e) =
    released g _ z k _ _ f e (both-heap xs m z k n ys g) (both-leaves xs m z k n ys g) (freed-further _ _ _ _ xs _ _ (joins_both refl))
release-way (before xs m z k ys g f h e) =
    released g _ z k _ _ f e (before-heap xs m z k ys g h) (before-leaves xs m z k ys g h) (freed-further _ _ _ _ xs _ _ (joins_before refl))
release-way (after xs z k n ys g f o e) =
    released g _ z k _ _ f e (after-heap xs z k n ys g o) (after-leaves xs z k n ys g o) (freed-further _ _ _ _ xs _ _ (joins_after refl))
release-way (none xs z k ys g f o h e) =
    released g _ z k _ _ f e (none-heap xs z k ys g o h) (none-leaves xs z k ys g o h) (freed-further _ _ _ _ xs _ _ (joins_none refl))

-- the theorem of a release
pub release-theorem : {s : List ℕ} {bs : List Block} {t : List ℕ} → Heap s bs t → (x z : ℕ) → ArrayIn (blockptr s) bs x z → Release s bs x
release-theorem g x z u = release-way (way g x z u)
