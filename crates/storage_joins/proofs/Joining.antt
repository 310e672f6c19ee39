-- Elements copied from where they stand: the test for it by its ways, and the array that two parts of the segment make.
use Prim.Native.Nat.{ℕ, ◌+◌, ◌<◌, ◌≤◌}
use mathlib.Core.Path.{◌≡◌, refl, sym, ap, ◌∙◌}
use mathlib.Core.Bool.{Bool, true, false, ◌&&◌}
use mathlib.Core.List.{List, ◌++◌}
use mathlib.Core.Logic.{◌≢◌, ◌⊎◌, inl, inr, ⊎_elim}
use native.Mathlib.Omega.{arith}
use lib.Dec.{leb, ltb}
use lib.ListN.{get_or, length, take, length-append}
use lib.Seq.{sets, sets-eq, take-append_seam}
use borrow.Author.Tests.{ltb-false, leb-true, leb-false, not-true, le-ltb, le-leb, lt-leb}
use Rattle.descriptor.proofs.Truth.{both}
use Rattle.segment.specs.Blocks.{part, size_at, next_at, last_at, need}
use Rattle.segment.specs.Parts.{part_of}
use Rattle.segment.specs.declared.blocks.Part.{Part}
use Rattle.segment.proofs.Runs.{part_length, part_same}
use Rattle.segment.proofs.Copies.{sets-other, sets-append}
use Rattle.storage.specs.Request.{give}
use Rattle.storage.specs.Arrays.{head, fill}
use Rattle.storage_joins.specs.Joined.{touches, kept, straight}
use Rattle.storage.proofs.Written.{give-other, head-other}

-- the words that the array needs
pub joined-need : (s shape : List ℕ) (first second : Part) → 2 + length shape + (first.count + second.count) ≡ need shape (part_of s first ++ part_of s second)
joined-need s shape first second =
    omega
    (arith, length-append (part_of s first) (part_of s second), part_length s first.start.0 first.count, part_length s second.start.0 second.count)

-- a part that does not touch those words ends before, or starts behind
apart : (p : Part) (low high : ℕ) → touches p low high ≡ false → (p.start.0 + p.count ≤ low) ⊎ (high < p.start.0)
unfolding touches
apart p low high = by-test (ltb low (p.start.0 + p.count)) refl
  where
    by-test : (goes_on : Bool) → ltb low (p.start.0 + p.count) ≡ goes_on → (goes_on && leb p.start.0 high) ≡ false
        → (p.start.0 + p.count ≤ low) ⊎ (high < p.start.0)
    by-test true e behind = inr (leb-false _ _ behind)
    by-test false e any = inl (ltb-false _ _ e)

-- what the tests say
pub record Kept (s : List ℕ) (f : ℕ) (p : Part) : Type 0 where
  pub fits : p.start.0 + p.count ≤ length s
  pub rover : (p.start.0 + p.count ≤ 0) ⊎ (1 < p.start.0)
  pub block : (p.start.0 + p.count ≤ f) ⊎ (f + size_at s f < p.start.0)
  pub next : (p.start.0 + p.count ≤ next_at s f + 1) ⊎ (next_at s f + 1 < p.start.0)
  pub last : (p.start.0 + p.count ≤ last_at s f + 1) ⊎ (last_at s f + 1 < p.start.0)

kept-says : (s : List ℕ) (f : ℕ) (p : Part) → kept s f p ≡ true → Kept s f p
unfolding kept
kept-says s f p holds =
    let a = both _ _ holds in
    let b = both _ _ a.1 in
    let c = both _ _ b.1 in
    let d = both _ _ c.1 in
    record {
      fits = leb-true _ _ a.0;
      rover = apart p 0 1 (not-true _ b.0);
      block = apart p f (f + size_at s f) (not-true _ c.0);
      next = apart p (next_at s f + 1) (next_at s f + 1) (not-true _ d.0);
      last = apart p (last_at s f + 1) (last_at s f + 1) (not-true _ d.1);
    }

pub straight-says : (s : List ℕ) (f : ℕ) (first second : Part) → straight s f first second ≡ true → (f + size_at s f ≤ length s) × Kept s f first × Kept s f second
unfolding straight
straight-says s f first second holds =
    let a = both _ _ holds in
    let b = both _ _ a.1 in
    (leb-true _ _ a.0, kept-says s f first b.0, kept-says s f second b.1)

-- and what makes them hold
touches-apart : (p : Part) (low high : ℕ) → (p.start.0 + p.count ≤ low) ⊎ (high < p.start.0) → touches p low high ≡ false
unfolding touches
touches-apart p low high (inl below) = simp (le-ltb _ _ below)
touches-apart p low high (inr above) = whatever (ltb low (p.start.0 + p.count))
  where
    whatever : (goes_on : Bool) → (goes_on && leb p.start.0 high) ≡ false
    whatever true = lt-leb _ _ above
    whatever false = refl

kept-holds : (s : List ℕ) (f : ℕ) (p : Part) → Kept s f p → kept s f p ≡ true
unfolding kept
kept-holds s f p k =
    simp (
      le-leb _ _ k.fits,
      touches-apart p 0 1 k.rover,
      touches-apart p f (f + size_at s f) k.block,
      touches-apart p (next_at s f + 1) (next_at s f + 1) k.next,
      touches-apart p (last_at s f + 1) (last_at s f + 1) k.last,
    )

pub straight-holds : (s : List ℕ) (f : ℕ) (first second : Part) → f + size_at s f ≤ length s → Kept s f first → Kept s f second
    → straight s f first second ≡ true
unfolding straight
straight-holds s f first second fits a b = simp (le-leb _ _ fits, kept-holds s f first a, kept-holds s f second b)

-- a word of a part lies where the part does
beyond : {start end low high : ℕ} → (end ≤ low) ⊎ (high < start) → (i : ℕ) → start ≤ i → i < end → (i < low) ⊎ (high < i)
beyond (inl below) i l u = inl (omega arith)
beyond (inr above) i l u = inr (omega arith)

off : {i x : ℕ} → (i < x) ⊎ (x < i) → i ≢ x
off (inl below) e = omega arith
off (inr above) e = omega arith

-- what is kept stands in any segment that is the one after the request outside the free block
kept-words : (s : List ℕ) (f size : ℕ) (p : Part) → Kept s f p → size ≤ size_at s f → (t : List ℕ)
    → ((i : ℕ) → (i < f) ⊎ (f + size_at s f < i) → get_or t i 0 ≡ get_or (give s f size) i 0) → part_of t p ≡ part_of s p
kept-words s f size p k room t same =
    part_same s t p.start.0 p.count
    (λ i l u.
    let o = beyond k.block i l u in
    same i o
    ∙ give-other s f size i room (⊎_elim (λ below. omega (arith, below)) (λ above. omega (arith, above)) (beyond k.rover i l u)) o
    (off (beyond k.last i l u), off (beyond k.next i l u)))

-- a part can be copied to any place in the free block
pub copies : (s : List ℕ) (f : ℕ) (p : Part) (long from to : ℕ) → Kept s f p → f + size_at s f ≤ length s → long ≡ length s → from ≡ p.start.0
    → (f ≤ to) × (to + p.count ≤ f + size_at s f) → (from + p.count ≤ long) × (to + p.count ≤ long)
copies s f p long from to k fits same start inside = (omega (arith, k.fits), omega arith)

-- the array that both parts make, copied one after the other behind its head
module _ (s : List ℕ) (f : ℕ) (shape : List ℕ) (first second : Part) (block : ℕ)
    (a : Kept s f first) (b : Kept s f second) (room : 2 + length shape + (first.count + second.count) ≤ size_at s f)
    (inside : (f ≤ block) × (block + (2 + length shape + (first.count + second.count)) ≤ f + size_at s f)) where
  abbrev size : ℕ
  size = 2 + length shape + (first.count + second.count)

  abbrev headed : List ℕ
  headed = head (give s f size) block shape

  abbrev place : ℕ
  place = block + 2 + length shape

  headed-same : (i : ℕ) → (i < f) ⊎ (f + size_at s f < i) → get_or headed i 0 ≡ get_or (give s f size) i 0
  headed-same i o = head-other (give s f size) block shape i (⊎_elim (λ q. inl (omega (arith, q))) (λ q. inr (omega (arith, q))) o)

  one_same : (i : ℕ) → (i < f) ⊎ (f + size_at s f < i) → get_or (sets headed place (part_of s first)) i 0 ≡ get_or (give s f size) i 0
  one_same i o =
      let long : length (part_of s first) ≡ first.count = part_length s first.start.0 first.count in
      sets-other (part_of s first) headed place i (⊎_elim (λ q. inl (omega (arith, q))) (λ q. inr (omega (arith, q))) o) ∙ headed-same i o

  pub join-words : {t h one two : List ℕ} {at from₁ from₂ : ℕ} → t ≡ give s f size → h ≡ head t block shape → at ≡ block
      → from₁ ≡ first.start.0 → one ≡ sets h (at + 2 + length shape) (part h from₁ first.count)
      → from₂ ≡ second.start.0 → two ≡ sets one (at + 2 + length shape + first.count) (part one from₂ second.count)
      → two ≡ fill (give s f size) block shape (part_of s first ++ part_of s second)
  unfolding fill
  join-words {one = one} {two = two} et eh ea e1 eone e2 etwo =
      let w1 : part_of headed first ≡ part_of s first = kept-words s f size first a room headed headed-same in
      let o1 : one ≡ sets headed place (part_of s first) = eone ∙ rw (eh, et, ea, e1, w1) in
      let w2 : part_of one second ≡ part_of s second = rw o1 (kept-words s f size second b room (sets headed place (part_of s first)) one_same) in
      etwo ∙ rw (ea, e2, w2, o1)
      (sym (sets-append (part_of s first) (part_of s second) headed place (place + first.count) (ap (λ (n : ℕ). place + n) (part_length s first.start.0 first.count))))

-- what is gathered in a scratch: both parts, one after the other
pub gathered : (s : List ℕ) (first second : Part) (o : List ℕ) {one two : List ℕ} → one ≡ sets o 0 (part_of s first) → two ≡ sets one first.count (part_of s second)
    → first.count + second.count ≤ length o → take (first.count + second.count) two ≡ part_of s first ++ part_of s second
gathered s first second o e1 e2 fits =
    let u : length (part_of s first) ≡ first.count = part_length s first.start.0 first.count in
    let v : length (part_of s second) ≡ second.count = part_length s second.start.0 second.count in
    let all : length (part_of s first ++ part_of s second) ≡ first.count + second.count = length-append (part_of s first) (part_of s second) ∙ omega arith in
    let ends : 0 + length (part_of s first) ≡ first.count = omega arith in
    rw (e2, e1, ← sets-append (part_of s first) (part_of s second) o 0 first.count ends, sets-eq (part_of s first ++ part_of s second) o 0 (omega arith), ← all)
    (take-append_seam (part_of s first ++ part_of s second) _)
