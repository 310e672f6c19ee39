-- What the bits that any of some words has, and those that all have, tell of each of them.
use Prim.Native.Nat.{ℕ, ◌/◌, ◌%◌, ◌^◌, ◌≤◌, ◌<◌}
use native.Mathlib.Omega.{arith}
use mathlib.Core.Path.{◌≡◌, sym, ap, ◌∙◌}
use lib.Bits.{bit_and, bit_or, and_le_l, and_le_r, or_add_and, or_shr, or_mod, and_shr, and_mod}
use Rattle.elements.specs.Parts.{Plain}

or-first : (a b : ℕ) → a ≤ bit_or a b
or-first a b = omega (arith, or_add_and a b, and_le_r a b)

or-second : (a b : ℕ) → b ≤ bit_or a b
or-second a b = omega (arith, or_add_and a b, and_le_l a b)

pub small-both : (a b : ℕ) → bit_or a b < 2 ^ 23 → (a < 2 ^ 23) × (b < 2 ^ 23)
small-both a b h = (omega (arith, h, or-first a b), omega (arith, h, or-second a b))

module _ (a b : ℕ) where
  pub plain-both : Plain (bit_or a b) → Plain a × Plain b
  plain-both h =
      let p : bit_or (a / 2 ^ 23 % 2 ^ 8) (b / 2 ^ 23 % 2 ^ 8) ≡ 0 = sym (ap (λ (x : ℕ). x % 2 ^ 8) (or_shr a b 23) ∙ or_mod (a / 2 ^ 23) (b / 2 ^ 23) 8) ∙ h in (
        omega (arith, p, or-first (a / 2 ^ 23 % 2 ^ 8) (b / 2 ^ 23 % 2 ^ 8)),
        omega (arith, p, or-second (a / 2 ^ 23 % 2 ^ 8) (b / 2 ^ 23 % 2 ^ 8)),
      )

  pub float_both : bit_and a b / 2 ^ 30 % 2 ≡ 1 → (a / 2 ^ 30 % 2 ≡ 1) × (b / 2 ^ 30 % 2 ≡ 1)
  float_both h =
      let p : bit_and (a / 2 ^ 30 % 2) (b / 2 ^ 30 % 2) ≡ 1 = sym (ap (λ (x : ℕ). x % 2) (and_shr a b 30) ∙ and_mod (a / 2 ^ 30) (b / 2 ^ 30) 1) ∙ h in (
        omega (arith, p, and_le_l (a / 2 ^ 30 % 2) (b / 2 ^ 30 % 2)),
        omega (arith, p, and_le_r (a / 2 ^ 30 % 2) (b / 2 ^ 30 % 2)),
      )

-- the bits of operands and of a result, put to those seen before
pub plain-operands : (seen x y : ℕ) → Plain (bit_or (bit_or seen x) y) → Plain seen × Plain x × Plain y
plain-operands seen x y h = let q = plain-both (bit_or seen x) y h in let r = plain-both seen x q.0 in (r.0, r.1, q.1)

pub plain-result : (seen x y w : ℕ) → Plain (bit_or (bit_or (bit_or seen x) y) w) → Plain seen × Plain x × Plain y × Plain w
plain-result seen x y w h = let q = plain-both (bit_or (bit_or seen x) y) w h in let r = plain-operands seen x y q.0 in (r.0, r.1, r.2, q.1)
