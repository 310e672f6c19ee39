-- What a whole block is, as facts; and the tests by which the code finds out.
use Prim.Native.Nat.{ℕ, ◌+◌, ◌-◌, ◌^◌, ◌≤◌, ◌<◌, min}
use native.Mathlib.Omega.{arith}
use mathlib.Core.Path.{◌≡◌, sym, ◌∙◌}
use mathlib.Core.Bool.{true, false, and-true}
use mathlib.Core.List.{List}
use lib.Dec.{leb, eqb}
use lib.ListN.{length}
use borrow.Author.Tests.{leb-true, eqb-true, le-leb}
use Rattle.descriptor.proofs.Truth.{fails, both, same_test}
use Rattle.segment.specs.Blocks.{size_at, rank_at, product, shape_at, elements_at}
use Rattle.segment.specs.Parts.{shape_part, elements_part}
use Rattle.segment.proofs.Parts.{shape-part, elements-part}
use Rattle.segment.proofs.Runs.{part_length}
use Rattle.effects.specs.Seen.{whole}

pub record Whole (s : List ℕ) (a : ℕ) : Type 0 where
  pub ranked : 1 ≤ rank_at s a
  pub sized : size_at s a ≡ 2 + rank_at s a + product (shape_at s a)
  pub inside : a + size_at s a ≤ length s
  -- the lengths and the elements are as many as the block says
  pub lengths : length (shape_at s a) ≡ rank_at s a
  pub elements : length (elements_at s a) ≡ product (shape_at s a)
  pub fits : length (elements_at s a) + 2 + rank_at s a ≤ length s
  pub small : product (shape_at s a) < 2 ^ 16

-- A product that is capped at 2^16 is exact where the size has sixteen bits.
capped-test : (size rank n : ℕ) → size < 2 ^ 16 → 2 + rank ≤ size → eqb (size - 2 - rank) (min n 65536) ≡ eqb size (2 + rank + n)
capped-test size rank n short long = same_test (size - 2 - rank) (min n 65536) size (2 + rank + n) (λ e. omega arith) (λ e. omega arith)

module _ (s : List ℕ) (a : ℕ) where
  shape-length : length (shape_at s a) ≡ rank_at s a
  unfolding shape_at
  shape-length = part_length s (a + 2) (rank_at s a)

  elements-length : length (elements_at s a) ≡ product (shape_at s a)
  unfolding elements_at
  elements-length = part_length s (a + 2 + rank_at s a) (product (shape_at s a))

  pub whole-facts : whole s a ≡ true → Whole s a
  unfolding whole
  whole-facts h =
      let x = both (leb 1 (rank_at s a)) _ h in
      let y = both (eqb (size_at s a) (2 + rank_at s a + product (shape_at s a))) _ x.1 in
      let ranked = leb-true 1 (rank_at s a) x.0 in
      let sized = eqb-true (size_at s a) (2 + rank_at s a + product (shape_at s a)) y.0 in
      let inside = leb-true (a + size_at s a) (length s) y.1 in
      record {
        ranked = ranked;
        sized = sized;
        inside = inside;
        lengths = shape-length;
        elements = elements-length;
        fits = omega (arith, elements-length);
        small = omega arith;
      }

  pub whole-lengths : whole s a ≡ true → shape_part s a ≡ shape_at s a
  whole-lengths h = let w = whole-facts h in shape-part s a (omega arith)

  pub whole-elements : whole s a ≡ true → elements_part s a ≡ elements_at s a
  whole-elements h = let w = whole-facts h in elements-part s a w.sized w.inside

  not-whole : (Whole s a → ⊥) → whole s a ≡ false
  not-whole never = fails (whole s a) (λ h. never (whole-facts h))

  pub unranked : rank_at s a < 1 → whole s a ≡ false
  unranked h = not-whole (λ w. omega arith)

  pub outside : length s < a + size_at s a → whole s a ≡ false
  outside h = not-whole (λ w. omega arith)

  pub too_short : size_at s a < 2 + rank_at s a → whole s a ≡ false
  too_short h = not-whole (λ w. omega arith)

  pub whole-product : 1 ≤ rank_at s a → a + size_at s a ≤ length s → 2 + rank_at s a ≤ size_at s a → eqb (size_at s a - 2 - rank_at s a) (min (product (shape_part s a)) 65536) ≡ whole s a
  unfolding whole
  whole-product ranked inside long =
      rw (shape-part s a (omega arith), le-leb 1 (rank_at s a) ranked, le-leb (a + size_at s a) (length s) inside)
      (capped-test (size_at s a) (rank_at s a) (product (shape_at s a)) (omega arith) long ∙ sym (and-true _))
