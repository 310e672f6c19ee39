-- Laws of the quotient: n = g * 2 ^ 40 divided by d, with a sticky bit for the remainder. Assumes nothing.
use Rattle.std.proofs.Common.{◌≡◌, ℕ, ◌+◌, ◌-◌, ◌*◌, ◌/◌, ◌%◌, ◌^◌, ◌<◌, ◌≤◌, Bool, true, false, cond, eqb, sym, ap, ◌∙◌, subst, ap₂, add-zero, lt_irrefl, mod-lt, mul_assoc, mul_comm, pos_of_ne-zero, mul-lt-mul_of_pos_right, mul-pos, div-add-mod', le-div_iff_mul-le, zero-mul, arith, pow_pos, pow-add, eq-eqb, ne_eqb}
use Rattle.scalar.specs.Value.{one, units}
use Rattle.scalar.specs.Operators.{product_sign, ratio_of}
use Rattle.scalar.specs.Parts.{Unpacked}
use native.Mathlib.Nat.{zero-mod}
use Rattle.scalar.specs.Results.{zero_divisor, rounded}
use Rattle.scalar.proofs.Rounding.{rounded-same, join}
use Rattle.scalar.proofs.Sticky.{rounded-sticky}

-- the quotient's bounds, as `rounded-sticky` asks them
sticky-lo : (h d n v : ℕ) → h * d < n → 0 < v → 2 * h * (d * v) < n * (2 * v)
sticky-lo h d n v l g = let k = mul-lt-mul_of_pos_right l g in omega arith

sticky-hi : (h d n v : ℕ) → n < h * d + d → 0 < v → n * (2 * v) < (2 * h + 2) * (d * v)
sticky-hi h d n v l g = let k = mul-lt-mul_of_pos_right l g in omega arith

module _ (s g e d f : ℕ) (p : 2 ^ 22 ≤ d) (q : d < 2 ^ 23) (b : f < 256) where
  abbrev pub n : ℕ
  n = g * 2 ^ 40

  -- the exponent that `round_at` is given
  abbrev pub k : ℕ
  k = e + 259 - f

  -- 2 ^ (e + 259), and the two sides in it
  v : ℕ
  v = 2 ^ (e + 259)

  den-is : 2 ^ k * (d * 2 ^ f) ≡ d * v
  unfolding v
  den-is = sym (mul_assoc (2 ^ (e + 259 - f)) d (2 ^ f)) ∙ ap (λ (x : ℕ). x * 2 ^ f) (mul_comm (2 ^ (e + 259 - f)) d) ∙ mul_assoc d (2 ^ (e + 259 - f)) (2 ^ f) ∙ ap (λ (x : ℕ). d * x) (join (e + 259 - f) f (e + 259) (omega arith))

  num-is : g * 2 ^ e * 2 ^ 150 * 2 ^ 150 ≡ n * (2 * v)
  unfolding v
  num-is =
      mul_assoc (g * 2 ^ e) (2 ^ 150) (2 ^ 150) ∙ mul_assoc g (2 ^ e) (2 ^ 300) ∙ ap (λ (x : ℕ). g * x) (join e 300 (40 + (1 + (e + 259))) (omega arith) ∙ pow-add 2 40 (1 + (e + 259)) ∙ ap (λ (x : ℕ). 2 ^ 40 * x) (pow-add 2 1 (e + 259)))
      ∙ sym (mul_assoc g (2 ^ 40) (2 * 2 ^ (e + 259)))

  v-pos : 0 < v
  unfolding v
  v-pos = pow_pos (e + 259)

  pub den_pos : 0 < d * 2 ^ f
  den_pos = mul-pos (omega arith) (pow_pos f)

  pub exact : n % d ≡ 0 → rounded s (n / d * 2 * 2 ^ k) (2 ^ 150) ≡ rounded s (g * 2 ^ e * 2 ^ 150) (d * 2 ^ f)
  exact z =
      rounded-same s (n / d * 2 * 2 ^ k) (2 ^ 150) (g * 2 ^ e * 2 ^ 150) (d * 2 ^ f) (pow_pos 150) den_pos
      (mul_assoc (n / d * 2) (2 ^ k) (d * 2 ^ f) ∙ ap (λ (x : ℕ). n / d * 2 * x) den-is ∙ both (n / d) v ∙ ap (λ (x : ℕ). x * (2 * v)) (sym (add-zero (n / d * d)) ∙ ap (λ (x : ℕ). n / d * d + x) (sym z) ∙ div-add-mod' n d) ∙ sym num-is)
    where
      both : (x y : ℕ) → x * 2 * (d * y) ≡ x * d * (2 * y)
      both x y = omega arith

  module _ (l : 0 < g → 2 ^ 22 ≤ g) where
    pub inexact : (n % d ≡ 0 → ⊥) → rounded s ((n / d * 2 + 1) * 2 ^ k) (2 ^ 150) ≡ rounded s (g * 2 ^ e * 2 ^ 150) (d * 2 ^ f)
    inexact z =
        let w : n / d * d + n % d ≡ n = div-add-mod' n d in
        let r : 0 < n % d = pos_of_ne-zero z in
        let t : n % d < d = mod-lt n (omega arith) in
        let m : 2 ^ 22 ≤ g = l (pos_of_ne-zero (λ (y : g ≡ 0). z (ap (λ (x : ℕ). x * 2 ^ 40 % d) y ∙ zero-mod d))) in
        sym (rounded-sticky s (g * 2 ^ e * 2 ^ 150) (d * 2 ^ f) (n / d) k den_pos ((le-div_iff_mul-le (omega arith)).1 (omega arith))
        (subst (λ (x : ℕ). 2 * (n / d) * x < g * 2 ^ e * 2 ^ 150 * 2 ^ 150) (sym den-is) (subst (λ (x : ℕ). 2 * (n / d) * (d * v) < x) (sym num-is) (sticky-lo (n / d) d n v (omega arith) v-pos)))
        (subst (λ (x : ℕ). g * 2 ^ e * 2 ^ 150 * 2 ^ 150 < (2 * (n / d) + 2) * x) (sym den-is) (subst (λ (x : ℕ). x < (2 * (n / d) + 2) * (d * v)) (sym num-is) (sticky-hi (n / d) d n v (omega arith) v-pos)))
        ∙ ap (λ (x : ℕ). rounded s ((x + 1) * 2 ^ k) (2 ^ 150)) (mul_comm 2 (n / d)))

-- ---- the quotient of two numbers that are taken apart

module _ (a b g e h f : ℕ) (u : Unpacked a g e) (v : Unpacked b h f) where
  -- by whether the divisor is zero
  by : (t : Bool) → eqb (units b) 0 ≡ t → ratio_of a b ≡ cond t zero_divisor (rounded (product_sign a b) (units a * one) (units b))
  unfolding ratio_of
  by t z = ap (λ (x : Bool). cond x zero_divisor (rounded (product_sign a b) (units a * one) (units b))) z

  pub quotient-zero : h ≡ 0 → zero_divisor ≡ ratio_of a b
  quotient-zero z = sym (by true (eq-eqb (units b) 0 (v.value ∙ ap (λ (x : ℕ). x * 2 ^ f) z ∙ zero-mul (2 ^ f))))

  pub quotient-other : (h ≡ 0 → ⊥) → rounded (product_sign a b) (g * 2 ^ e * one) (h * 2 ^ f) ≡ ratio_of a b
  quotient-other z =
      let p : 0 < units b = subst (λ (x : ℕ). 0 < x) (sym v.value) (mul-pos (pos_of_ne-zero z) (pow_pos f)) in
      sym (by false (ne_eqb (units b) 0 (λ (y : units b ≡ 0). lt_irrefl 0 (subst (λ (x : ℕ). 0 < x) y p)))
      ∙ ap₂ (λ (x y : ℕ). rounded (product_sign a b) (x * one) y) u.value v.value)
