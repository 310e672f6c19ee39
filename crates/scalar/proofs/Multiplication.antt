-- Laws of the product: what it is of two integers, and of two numbers one of which is a float.
use Rattle.std.proofs.Common.{◌≡◌, ℕ, ◌+◌, ◌*◌, ◌/◌, ◌%◌, ◌^◌, ◌<◌, Bool, true, false, cond, sym, ap, ◌∙◌, ap₂, le_of_lt, mul_assoc, mul-le-mul, mul-div_cancel, pow_pos, pow-add, w64, Fits}
use native.Mathlib.Nat.{mul-mul-mul_comm}
use mir.Facts.{Fits-below}
use Rattle.descriptor.specs.Fields.{magnitude}
use Rattle.scalar.specs.Value.{one, units, one_float}
use Rattle.scalar.specs.Results.{integer, rounded, result}
use Rattle.scalar.specs.Operators.{product_sign, times}
use Rattle.scalar.proofs.Operands.{both-integers}
use Rattle.scalar.proofs.Units.{units-integer}

pub product_value : (u s e v t f : ℕ) → u ≡ s * 2 ^ e → v ≡ t * 2 ^ f → s * t * 2 ^ (e + f) ≡ u * v
product_value u s e v t f p q = ap (λ (x : ℕ). s * t * x) (pow-add 2 e f) ∙ mul-mul-mul_comm s t (2 ^ e) (2 ^ f) ∙ sym (ap₂ ◌*◌ p q)

pub short-product : {m n : ℕ} → m < 2 ^ 23 → n < 2 ^ 23 → Fits w64 (m * n)
short-product {m} {n} p q = Fits-below {n = 2 ^ 46} tt (mul-le-mul (le_of_lt p) (le_of_lt q))

module _ (a b : ℕ) where
  -- the product by whether one of the two is a float
  by : (t : Bool) → one_float a b ≡ t → times a b ≡ cond t (rounded (product_sign a b) (units a * units b) one) (integer (product_sign a b) (units a * units b / one / one))
  unfolding times result
  by t h = ap (λ (x : Bool). cond x (rounded (product_sign a b) (units a * units b) one) (integer (product_sign a b) (units a * units b / one / one))) h

  pub product-float : one_float a b ≡ true → rounded (product_sign a b) (units a * units b) one ≡ times a b
  product-float h = sym (by true h)

  -- in units the product of two magnitudes has 2 ^ 150 twice over
  twice-scaled : (m n d : ℕ) → 0 < d → m * d * (n * d) / d / d ≡ m * n
  twice-scaled m n d p = ap (λ (x : ℕ). x / d / d) (mul-mul-mul_comm m d n d ∙ sym (mul_assoc (m * n) d d)) ∙ ap (λ (x : ℕ). x / d) (mul-div_cancel (m * n * d) p) ∙ mul-div_cancel (m * n) p

  pub product-integer : a / 2 ^ 30 % 2 ≡ 0 → b / 2 ^ 30 % 2 ≡ 0 → integer (product_sign a b) (magnitude a * magnitude b) ≡ times a b
  product-integer h k =
      sym (by false (both-integers a b h k)
      ∙ ap (λ (x : ℕ). integer (product_sign a b) (x / one / one)) (ap₂ ◌*◌ (units-integer a h) (units-integer b k))
      ∙ ap (λ (x : ℕ). integer (product_sign a b) x) (twice-scaled (magnitude a) (magnitude b) one (pow_pos 150)))
