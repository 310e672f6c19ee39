-- The words that a block covers by the tests, and the block that its words are.
use Rattle.std.proofs.Common.{Some, None}
use Prim.Native.Nat.{ℕ, zero, suc, ◌+◌, ◌-◌, ◌*◌, ◌/◌, ◌%◌, ◌^◌, ◌<◌, ◌≤◌}
use mathlib.Core.Path.{◌≡◌, refl, ◌∙◌}
use mathlib.Core.Bool.{Bool, true, false}
use mathlib.Core.List.{List}
use native.Mathlib.Omega.{arith}
use lib.ListN.{get_or}
use borrow.Author.Tests.{le-leb, lt-leb, eq-eqb, ne_eqb}
use Rattle.segment.specs.Blocks.{free_at, size_at, slop_at, span_at}
use Rattle.storage.specs.Heap.{Block, free, array, span, is_free, prev_free_bit, FreeBlock, ArrayBlock, BlockAt}
use Rattle.acceptance_storage.specs.Answer.{proper}
use Rattle.acceptance_storage.specs.Blocks.{free_span, array_span, block_span}
use Rattle.descriptor.proofs.Truth.{by_le, by-eq}

-- the words that a proper block covers
pub proper_some : (n : ℕ) → 0 < n → proper n ≡ Some n
proper_some zero h = absurd (omega arith)
proper_some (suc n) h = refl

pub proper_none : {n : ℕ} → proper n ≡ None → n ≡ 0
proper_none {n = zero} e = refl
proper_none {n = suc n} e = absurd cc

pub proper_is : {n k : ℕ} → proper n ≡ Some k → (k ≡ n) × (k ≡ 0 → ⊥)
proper_is {n = zero} e = absurd cc
proper_is {n = suc n} {k = k} e = go cc
  where
    go : suc n ≡ k → (k ≡ suc n) × (k ≡ 0 → ⊥)
    go p = (omega arith, λ z. omega arith)

-- the first word of an array's block, and its fields
whole_word : (before : Bool) (w : ℕ) → w / 2 ^ 18 ≡ prev_free_bit before / 2 ^ 18 → w ≡ prev_free_bit before + w / 2 ^ 16 % 4 * 2 ^ 16 + w % 2 ^ 16
whole_word true w e = omega arith
whole_word false w e = omega arith

word_fields : (before : Bool) (w size slop : ℕ) → w ≡ prev_free_bit before + slop * 2 ^ 16 + size → slop ≤ 2 → size < 2 ^ 16
    → (w % 2 ^ 16 ≡ size) × (w / 2 ^ 16 % 4 ≡ slop) × (w / 2 ^ 18 ≡ prev_free_bit before / 2 ^ 18) × (w < 2 ^ 31)
word_fields true w size slop e a b = omega arith
word_fields false w size slop e a b = omega arith

-- a free block
free-block : (s : List ℕ) (a : ℕ) (before : Bool) → (free_span s a before ≡ 0 → ⊥) → FreeBlock s a before (get_or s a 0 - 2 ^ 31)
unfolding free_span
free-block s a true h = absurd (h refl)
free-block s a false h =
    by_le 3 size
    (λ l. by-eq (get_or s (a + size - 1) 0) size
    (λ e. record { alone = refl; least = l; first = omega arith; end = e })
    (λ e. absurd (h (simp (le-leb _ _ l, ne_eqb _ _ e)))))
    (λ l. absurd (h (simp (lt-leb _ _ l))))
  where
    size : ℕ
    size = get_or s a 0 - 2 ^ 31

pub free_span-yes : (s : List ℕ) (a : ℕ) (before : Bool) (size : ℕ) → FreeBlock s a before size → free_span s a before ≡ size
unfolding free_span
free_span-yes s a before size h =
    let m : get_or s a 0 - 2 ^ 31 ≡ size = omega (arith, h.first) in
    rw (m, h.alone) (simp (le-leb _ _ h.least, eq-eqb _ _ h.end))

-- an array's block
array-block : (s : List ℕ) (a : ℕ) (before : Bool) → (array_span s a before ≡ 0 → ⊥) → ArrayBlock s a before (size_at s a) (slop_at s a)
unfolding array_span
array-block s a before h =
    by_le 3 (size_at s a)
    (λ l. by_le (slop_at s a) 2
    (λ k. by-eq (get_or s a 0 / 2 ^ 18) (prev_free_bit before / 2 ^ 18)
    (λ e. record { least = l; small = k; first = whole_word before (get_or s a 0) e })
    (λ e. absurd (h (simp (le-leb _ _ l, le-leb _ _ k, ne_eqb _ _ e)))))
    (λ k. absurd (h (simp (le-leb _ _ l, lt-leb _ _ k)))))
    (λ l. absurd (h (simp (lt-leb _ _ l))))

pub array_span-yes : (s : List ℕ) (a : ℕ) (before : Bool) → 3 ≤ size_at s a → slop_at s a ≤ 2 → get_or s a 0 / 2 ^ 18 ≡ prev_free_bit before / 2 ^ 18 → array_span s a before ≡ span_at s a
unfolding array_span
array_span-yes s a before l k e = simp (le-leb _ _ l, le-leb _ _ k, eq-eqb _ _ e)

-- either
module _ (s : List ℕ) (a : ℕ) (before : Bool) where
  pub block_span-free : free_at s a ≡ true → block_span s a before ≡ free_span s a before
  unfolding block_span
  block_span-free h = simp h

  pub block_span-array : free_at s a ≡ false → block_span s a before ≡ array_span s a before
  unfolding block_span
  block_span-array h = simp h

array-covers : (s : List ℕ) (a : ℕ) (before : Bool) → free_at s a ≡ false → ArrayBlock s a before (size_at s a) (slop_at s a) → block_span s a before ≡ size_at s a + slop_at s a
array-covers s a before f k =
    block_span-array s a before f ∙ array_span-yes s a before k.least k.small (word_fields before (get_or s a 0) (size_at s a) (slop_at s a) k.first k.small (omega arith)).2

-- what the tests read of a block
pub record Seen (s : List ℕ) (a : ℕ) (before : Bool) (b : Block) : Type 0 where
  pub least : 3 ≤ span b
  pub kind : free_at s a ≡ is_free b
  pub covers : block_span s a before ≡ span b
  pub steps : span_at s a ≡ span b

array_seen : (s : List ℕ) (a : ℕ) (before : Bool) (size slop : ℕ) → ArrayBlock s a before size slop
    → (get_or s a 0 % 2 ^ 16 ≡ size) × (get_or s a 0 / 2 ^ 16 % 4 ≡ slop) × (get_or s a 0 / 2 ^ 18 ≡ prev_free_bit before / 2 ^ 18) × (get_or s a 0 < 2 ^ 31)
    → Seen s a before (array size slop)
array_seen s a before size slop h r =
    let f : free_at s a ≡ false = lt-leb (2 ^ 31) (get_or s a 0) r.3 in
    record {
      least = omega (arith, h.least);
      kind = f;
      covers = block_span-array s a before f ∙ array_span-yes s a before (rw r.0 h.least) (rw r.1 h.small) r.2 ∙ rw (r.0, r.1);
      steps = rw (r.0, r.1);
    }

pub array_size : (s : List ℕ) (a : ℕ) (before : Bool) (size slop : ℕ) → ArrayBlock s a before size slop → size < 2 ^ 16 → size_at s a ≡ size
array_size s a before size slop h l = (word_fields before (get_or s a 0) size slop h.first h.small l).0

pub seen : (s : List ℕ) (a : ℕ) (before : Bool) (b : Block) → BlockAt s a before b → span b < 2 ^ 16 → Seen s a before b
seen s a before (free size) h l =
    let f : free_at s a ≡ true = le-leb (2 ^ 31) (get_or s a 0) (omega (arith, h.first)) in
    record { least = h.least; kind = f; covers = block_span-free s a before f ∙ free_span-yes s a before size h; steps = omega (arith, h.first) }
seen s a before (array size slop) h l =
    array_seen s a before size slop h (word_fields before (get_or s a 0) size slop h.first h.small (omega arith))

-- a block that covers some words
pub a_block : (s : List ℕ) (a : ℕ) (before : Bool) → (block_span s a before ≡ 0 → ⊥) → block_span s a before < 2 ^ 16
    → (b : Block) × BlockAt s a before b × Seen s a before b
a_block s a before h l = go (free_at s a) refl
  where
    found : (b : Block) → BlockAt s a before b → span b < 2 ^ 16 → (b : Block) × BlockAt s a before b × Seen s a before b
    found b k m = (b, k, seen s a before b k m)

    go : (f : Bool) → free_at s a ≡ f → (b : Block) × BlockAt s a before b × Seen s a before b
    go true f =
        let k = free-block s a before (λ z. h (block_span-free s a before f ∙ z)) in
        found (free (get_or s a 0 - 2 ^ 31)) k (omega (arith, block_span-free s a before f, free_span-yes s a before _ k))
    go false f =
        let k = array-block s a before (λ z. h (block_span-array s a before f ∙ z)) in
        found (array (size_at s a) (slop_at s a)) k (omega (arith, k.small, array-covers s a before f k))
