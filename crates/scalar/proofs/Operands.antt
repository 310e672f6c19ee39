-- The tests on operands' kinds: what a character, a float and two small words make of an operator.
use Rattle.std.proofs.Common.{◌≡◌, ℕ, ◌/◌, ◌%◌, ◌^◌, Bool, true, false, cond, ◌||◌, eqb, sym, refl, ap, ◌∙◌, arith, eq-eqb, ne_eqb, eqb-true}
use borrow.Author.Tests.{eqb-false}
use Rattle.descriptor.specs.Fields.{is_float, is_character, type_number}
use Rattle.descriptor.proofs.Truth.{both}
use Rattle.scalar.specs.Value.{one_float}
use Rattle.scalar.specs.Results.{type_error}
use Rattle.scalar.specs.Operators.{number, numbers}
use Rattle.scalar.specs.Parts.{both_small, one_character}
use Rattle.scalar.specs.Results.{Answer}

-- ---- floats

pub not_float : (w : ℕ) → w / 2 ^ 30 % 2 ≡ 0 → is_float w ≡ false
not_float w h = ne_eqb (w / 2 ^ 30 % 2) 1 (omega arith)

pub is-float : (w : ℕ) → (w / 2 ^ 30 % 2 ≡ 0 → ⊥) → is_float w ≡ true
is-float w h = eq-eqb (w / 2 ^ 30 % 2) 1 (omega (arith, h))

pub both-integers : (a b : ℕ) → a / 2 ^ 30 % 2 ≡ 0 → b / 2 ^ 30 % 2 ≡ 0 → one_float a b ≡ false
both-integers a b h k = simp (not_float a h, not_float b k)

pub first-float : (a b : ℕ) → (a / 2 ^ 30 % 2 ≡ 0 → ⊥) → one_float a b ≡ true
first-float a b h = simp (is-float a h)

pub second-float : (a b : ℕ) → a / 2 ^ 30 % 2 ≡ 0 → (b / 2 ^ 30 % 2 ≡ 0 → ⊥) → one_float a b ≡ true
second-float a b h k = simp (not_float a h, is-float b k)

-- ---- characters: bits 30–24 are 1

pub character-bits : (w : ℕ) → eqb (w / 2 ^ 24 % 2 ^ 7) 1 ≡ is_character w
character-bits w = by (eqb (w / 2 ^ 30 % 2) 1) refl
  where
    typed : (t : Bool) → eqb (type_number w) 1 ≡ t → w / 2 ^ 30 % 2 ≡ 0 → eqb (w / 2 ^ 24 % 2 ^ 7) 1 ≡ t
    typed true e h = let k = eqb-true (type_number w) 1 e in eq-eqb (w / 2 ^ 24 % 2 ^ 7) 1 (omega arith)
    typed false e h = let k = eqb-false (type_number w) 1 e in ne_eqb (w / 2 ^ 24 % 2 ^ 7) 1 (λ q. omega (arith, k))

    by : (t : Bool) → is_float w ≡ t → eqb (w / 2 ^ 24 % 2 ^ 7) 1 ≡ cond t false (eqb (type_number w) 1)
    by true e = let k = eqb-true (w / 2 ^ 30 % 2) 1 e in ne_eqb (w / 2 ^ 24 % 2 ^ 7) 1 (λ q. omega arith)
    by false e = let k = eqb-false (w / 2 ^ 30 % 2) 1 e in typed (eqb (type_number w) 1) refl (omega (arith, k))

module _ (a : ℕ) (x : Answer) where
  pub number-character : is_character a ≡ true → number a x ≡ type_error
  number-character h = ap (λ (t : Bool). cond t type_error x) h

  pub number-plain : is_character a ≡ false → number a x ≡ x
  number-plain h = ap (λ (t : Bool). cond t type_error x) h

module _ (a b : ℕ) (x : Answer) where
  pub numbers-character : one_character a b ≡ true → numbers a b x ≡ type_error
  numbers-character h = ap (λ (t : Bool). cond t type_error x) h

  pub numbers-plain : one_character a b ≡ false → numbers a b x ≡ x
  numbers-plain h = ap (λ (t : Bool). cond t type_error x) h

pub first-character : (a b : ℕ) → is_character a ≡ true → one_character a b ≡ true
first-character a b h = ap (λ (t : Bool). t || is_character b) h

pub first_plain : (a b : ℕ) → is_character a ≡ false → one_character a b ≡ is_character b
first_plain a b h = ap (λ (t : Bool). t || is_character b) h

-- ---- two words with bits 30–23 clear

-- bits 30–23 of w are clear
abbrev pub Small : ℕ → Type 0
Small w = w / 2 ^ 23 % 2 ^ 8 ≡ 0

pub small_plain : (w : ℕ) → Small w → is_character w ≡ false
small_plain w h = sym (character-bits w) ∙ ne_eqb (w / 2 ^ 24 % 2 ^ 7) 1 (λ q. omega arith)

module _ (a b : ℕ) (h : both_small a b ≡ true) where
  pub small-first : Small a
  small-first = eqb-true (a / 2 ^ 23 % 2 ^ 8) 0 (both (eqb (a / 2 ^ 23 % 2 ^ 8) 0) (eqb (b / 2 ^ 23 % 2 ^ 8) 0) h).0

  pub small-second : Small b
  small-second = eqb-true (b / 2 ^ 23 % 2 ^ 8) 0 (both (eqb (a / 2 ^ 23 % 2 ^ 8) 0) (eqb (b / 2 ^ 23 % 2 ^ 8) 0) h).1

  pub small-first-plain : is_character a ≡ false
  small-first-plain = small_plain a small-first

  pub small-second-plain : is_character b ≡ false
  small-second-plain = small_plain b small-second

  pub small-numbers : one_character a b ≡ false
  small-numbers = simp (small-first-plain, small-second-plain)

  pub small-integers : (a / 2 ^ 30 % 2 ≡ 0) × (b / 2 ^ 30 % 2 ≡ 0)
  small-integers = let p = small-first in let q = small-second in (omega (arith, p), omega (arith, q))
