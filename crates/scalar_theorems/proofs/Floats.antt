-- The word of a rounded magnitude m * 2 ^ e: its fields, and its units.
use Prim.Native.Nat.{ℕ, ◌+◌, ◌-◌, ◌*◌, ◌/◌, ◌%◌, ◌^◌, ◌≤◌, ◌<◌}
use mathlib.Core.Path.{◌≡◌, refl, sym, ap, ap₂, ◌∙◌, subst}
use mathlib.Core.Bool.{true}
use mathlib.Core.Logic.{⊎_elim}
use native.Mathlib.Nat.{eq-or-lt_of_le, mul_assoc, lt_of_not-le, not-le_of_lt, lt_of_lt_of_le, le-div_iff_mul-le, div-lt_iff_lt-mul, le_trans, le_of_eq, le_of_lt, mul-one, mul_comm, mul-pos}
use native.Mathlib.Omega.{arith}
use borrow.Author.Tests.{eq-eqb}
use lib.Dec.{lit<}
use lib.Pow.{pow_mono, pow_pos, pow-add}
use lib.Ieee.{size}
use lib.Ieee.Digits.{size-lt, size_reaches}
use lib.Ieee.Nearest.{closest, closest_mono}
use Rattle.descriptor.specs.Fields.{sign, is_float, exponent, fraction}
use Rattle.scalar.specs.Value.{units}
use Rattle.scalar.specs.Results.{rounded, float}
use Rattle.scalar.proofs.Units.{units-float}
use Rattle.scalar.proofs.Rounding.{rounded-at, join}

-- a float's word, from its sign, exponent and digits
abbrev pub made : ℕ → ℕ → ℕ → ℕ
made s m e = s * 2 ^ 31 + 2 ^ 30 + (e * 2 ^ 22 + (m - 2 ^ 22))

module _ (s m e : ℕ) (sign_bit : s < 2) (lo : 2 ^ 22 ≤ m) (hi : m ≤ 2 ^ 23) (fits : e * 2 ^ 22 + (m - 2 ^ 22) < 2 ^ 30) where
  pub made_word : made s m e < 2 ^ 32
  made_word = omega arith

  made-bit : made s m e / 2 ^ 30 % 2 ≡ 1
  made-bit = omega arith

  pub made_float : is_float (made s m e) ≡ true
  made_float = eq-eqb (made s m e / 2 ^ 30 % 2) 1 made-bit

  pub made-sign : sign (made s m e) ≡ s
  made-sign = omega arith

  fields : units (made s m e) ≡ (2 ^ 22 + fraction (made s m e)) * 2 ^ exponent (made s m e)
  fields = units-float (made s m e) (λ z. let k = made-bit in omega arith)

  pub made-units : units (made s m e) ≡ m * 2 ^ e
  made-units =
      fields ∙ ⊎_elim
      (λ (q : m ≡ 2 ^ 23). ap₂ (λ (x y : ℕ). (2 ^ 22 + x) * 2 ^ y) (carried q) (next q) ∙ join 22 (1 + e) (23 + e) (omega arith) ∙ sym (ap (λ (x : ℕ). x * 2 ^ e) q ∙ join 23 e (23 + e) refl))
      (λ (q : m < 2 ^ 23). ap₂ (λ (x y : ℕ). x * 2 ^ y) (digits q) (same q))
      (eq-or-lt_of_le hi)
    where
      carried : m ≡ 2 ^ 23 → fraction (made s m e) ≡ 0
      carried q = omega arith

      next : m ≡ 2 ^ 23 → exponent (made s m e) ≡ 1 + e
      next q = omega arith

      digits : m < 2 ^ 23 → 2 ^ 22 + fraction (made s m e) ≡ m
      digits q = omega arith

      same : m < 2 ^ 23 → exponent (made s m e) ≡ e
      same q = omega arith

  pub made-even : m % 2 ≡ 0 → fraction (made s m e) % 2 ≡ 0
  made-even q = omega arith

-- ---- the digits that `rounded` takes of a magnitude that does not underflow

module _ (num den : ℕ) (p : 0 < den) (l : 2 ^ 22 * den ≤ num) where
  -- the whole part has more than 22 digits
  long : 22 < size (num / den)
  long = lt_of_not-le (λ (c : size (num / den) ≤ 22). not-le_of_lt (lt_of_lt_of_le (size-lt (num / den)) (pow_mono c)) ((le-div_iff_mul-le p).1 l))

  pub from : 2 ^ (22 + (size (num / den) - 23)) * den ≤ num
  from = let k = long in (le-div_iff_mul-le p).0 (size_reaches (num / den) (22 + (size (num / den) - 23)) (omega arith))

  pub upto : num < 2 ^ (23 + (size (num / den) - 23)) * den
  upto = let k = long in (div-lt_iff_lt-mul p).0 (subst (λ (x : ℕ). num / den < 2 ^ x) (omega arith) (size-lt (num / den)))

  -- 23 digits, rounded
  abbrev pub digits : ℕ
  digits = closest num (den * 2 ^ (size (num / den) - 23))

  bound : (i e : ℕ) → 2 ^ i * (den * 2 ^ e) ≡ 2 ^ (i + e) * den
  bound i e = ap (λ (x : ℕ). 2 ^ i * x) (mul_comm den (2 ^ e)) ∙ sym (mul_assoc (2 ^ i) (2 ^ e) den) ∙ ap (λ (x : ℕ). x * den) (sym (pow-add 2 i e))

  unit-pos : 0 < den * 2 ^ (size (num / den) - 23)
  unit-pos = mul-pos p (pow_pos (size (num / den) - 23))

  pub digits-ge : 2 ^ 22 ≤ digits
  digits-ge = closest_mono (2 ^ 22) 1 num (den * 2 ^ (size (num / den) - 23)) (lit< tt) unit-pos (le_trans (le_of_eq (bound 22 (size (num / den) - 23))) (le_trans from (le_of_eq (sym (mul-one num)))))

  pub digits_le : digits ≤ 2 ^ 23
  digits_le = closest_mono num (den * 2 ^ (size (num / den) - 23)) (2 ^ 23) 1 unit-pos (lit< tt) (le_trans (le_of_eq (mul-one num)) (le_trans (le_of_lt upto) (le_of_eq (sym (bound 23 (size (num / den) - 23))))))

  pub rounded-is : (s : ℕ) → rounded s num den ≡ float s digits (size (num / den) - 23)
  rounded-is s = rounded-at s num den (size (num / den) - 23) p from upto
