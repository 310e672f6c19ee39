-- Laws of the reading as a whole number: an integer, a float from 2 ^ 23 on, one below 1, and one between.
use Rattle.std.proofs.Common.{◌≡◌, ℕ, zero, suc, ◌+◌, ◌-◌, ◌*◌, ◌/◌, ◌%◌, ◌^◌, ◌<◌, ◌≤◌, min, Bool, true, false, cond, ◌&&◌, eqb, ltb, sym, refl, ap, ◌∙◌, ap₂, lt_trans, lt_of_lt_of_le, lt_of_le_of_lt, add-zero, mod-eq_of_lt, mul_assoc, mul-le-mul, mul-pos, div-add-mod', zero-mul, div-le_self, div-mul-le_self, mul-div_cancel, arith, lit<, pow_pos, pow_mono, lt-ltb, eq-eqb, ne_eqb, eqb-true}
use native.Mathlib.Nat.{mul-mod_left, mul-div-mul_right, eq_of_mul-eq-mul_right}
use borrow.Author.Tests.{eqb-false}
use Rattle.descriptor.specs.Fields.{sign, is_character, magnitude}
use Rattle.descriptor.specs.Kinds.{bit}
use Rattle.scalar.specs.Value.{one, units}
use Rattle.scalar.specs.Reading.{whole_number, whole_units, whole_of}
use Rattle.scalar.specs.declared.Whole.TheVariants as W
use Rattle.scalar.proofs.Units.{units-integer, units-float}
use Rattle.scalar.proofs.Rounding.{join, up_lt}

least : (m c : ℕ) → m < c → min m c ≡ m
least m c h = omega arith

most : (m c : ℕ) → c ≤ m → min m c ≡ c
most m c h = omega arith

module _ (s n : ℕ) where
  pub whole-number : n % one ≡ 0 → whole_units s n ≡ whole_number s (n / one)
  unfolding whole_units
  whole-number h = ap (λ (t : Bool). cond t (whole_number s (n / one)) W.Fraction) (eq-eqb (n % one) 0 h)

  pub no_whole : (n % one ≡ 0 → ⊥) → whole_units s n ≡ W.Fraction
  unfolding whole_units
  no_whole h = ap (λ (t : Bool). cond t (whole_number s (n / one)) W.Fraction) (ne_eqb (n % one) 0 h)

-- n ones
whole-ones : (s n : ℕ) → whole_units s (n * one) ≡ whole_number s n
whole-ones s n = whole-number s (n * one) (mul-mod_left n one) ∙ ap (whole_number s) (mul-div_cancel n (pow_pos 150))

-- a sign and a magnitude that is not zero, below 2 ^ 23 and from there on
sign_kept : (t : Bool) (n : ℕ) → 0 < n → (eqb (bit t) 1 && ltb 0 n) ≡ t
sign_kept true n h = lt-ltb 0 n h
sign_kept false n h = refl

number_small : (t : Bool) (n : ℕ) → 0 < n → n < 2 ^ 23 → W.Number t n ≡ whole_number (bit t) n
number_small t n h l = sym (ap₂ W.Number (sign_kept t n h) (least n (2 ^ 23) l))

number-large : (t : Bool) (n : ℕ) → 2 ^ 23 ≤ n → W.Number t (2 ^ 23) ≡ whole_number (bit t) n
number-large t n h = sym (ap₂ W.Number (sign_kept t n (omega arith)) (most n (2 ^ 23) h))

pub integral-zero : (s n : ℕ) → n ≡ 0 → W.Number false 0 ≡ whole_units s (n * one)
integral-zero s n h = sym (ap (λ (x : ℕ). whole_units s (x * one)) h ∙ whole-ones s 0 ∙ none (eqb s 1))
  where
    none : (t : Bool) → W.Number (t && false) 0 ≡ W.Number false 0
    none true = refl
    none false = refl

pub integral-integer : (t : Bool) (n : ℕ) → (n ≡ 0 → ⊥) → n < 2 ^ 23 → W.Number t n ≡ whole_units (bit t) (n * one)
integral-integer t n h l = number_small t n (omega (arith, h)) l ∙ sym (whole-ones (bit t) n)

-- ---- a float of g * 2 ^ e units

module _ (t : Bool) (g e : ℕ) (lo : 2 ^ 22 ≤ g) (hi : g < 2 ^ 23) where
  pub integral-large : 150 < e → W.Number t (2 ^ 23) ≡ whole_units (bit t) (g * 2 ^ e)
  integral-large h =
      number-large t (g * 2 ^ (e - 150)) (mul-le-mul {n₁ = 2 ^ 22} {m₁ = 2 ^ 1} {n₂ = g} {m₂ = 2 ^ (e - 150)} lo (pow_mono {i = 1} {j = e - 150} (omega arith)))
      ∙ sym (ap (whole_units (bit t)) (ap (λ (k : ℕ). g * k) (sym (join (e - 150) 150 e (omega arith))) ∙ sym (mul_assoc g (2 ^ (e - 150)) one)) ∙ whole-ones (bit t) (g * 2 ^ (e - 150)))

  pub integral-below : e < 128 → W.Fraction ≡ whole_units (bit t) (g * 2 ^ e)
  integral-below h =
      let l : g * 2 ^ e < one = lt_of_lt_of_le (up_lt g 23 e (23 + e) hi refl) (pow_mono {i = 23 + e} {j = 150} (omega arith)) in
      let p : 0 < g * 2 ^ e = mul-pos (omega arith) (pow_pos e) in
      sym (no_whole (bit t) (g * 2 ^ e) (λ (z : g * 2 ^ e % one ≡ 0). lost (g * 2 ^ e) p (sym (mod-eq_of_lt l) ∙ z)))
    where
      lost : (x : ℕ) → 0 < x → x ≡ 0 → ⊥
      lost x p z = omega arith

  -- between: 2 ^ k of these units are one
  module _ (k : ℕ) (s : k + e ≡ 150) (b : k < 32) where
    unit : one ≡ 2 ^ k * 2 ^ e
    unit = sym (join k e 150 s)

    -- the bits below one, shifted out and in again
    kept : (g / 2 ^ k * 2 ^ k) % 2 ^ 32 ≡ g / 2 ^ k * 2 ^ k
    kept = mod-eq_of_lt (lt_of_le_of_lt (div-mul-le_self g (2 ^ k)) (lt_trans hi (lit< tt)))

    pub integral-between : (g / 2 ^ k * 2 ^ k) % 2 ^ 32 ≡ g → W.Number t (g / 2 ^ k) ≡ whole_units (bit t) (g * 2 ^ e)
    integral-between h =
        let n : ℕ = g / 2 ^ k in
        let q : n * 2 ^ k ≡ g = sym kept ∙ h in
        number_small t n (positive n q) (lt_of_le_of_lt (div-le_self g (2 ^ k)) hi)
        ∙ sym (ap (λ (x : ℕ). whole_units (bit t) (x * 2 ^ e)) (sym q) ∙ ap (whole_units (bit t)) (mul_assoc n (2 ^ k) (2 ^ e) ∙ ap (λ (x : ℕ). n * x) (sym unit)) ∙ whole-ones (bit t) n)
      where
        positive : (n : ℕ) → n * 2 ^ k ≡ g → 0 < n
        positive zero q = absurd (omega (arith, zero-mul (2 ^ k)))
        positive (suc n) q = omega arith

    pub integral-fraction : ((g / 2 ^ k * 2 ^ k) % 2 ^ 32 ≡ g → ⊥) → W.Fraction ≡ whole_units (bit t) (g * 2 ^ e)
    integral-fraction h =
        sym (no_whole (bit t) (g * 2 ^ e) (λ (z : g * 2 ^ e % one ≡ 0). h (kept ∙ whole z)))
      where
        whole : g * 2 ^ e % one ≡ 0 → g / 2 ^ k * 2 ^ k ≡ g
        whole z =
            let n : ℕ = g / 2 ^ k in
            let q : g * 2 ^ e / one ≡ n = ap (λ (x : ℕ). g * 2 ^ e / x) unit ∙ mul-div-mul_right g (2 ^ k) (pow_pos e) in
            let r : g * 2 ^ e / one * one ≡ g * 2 ^ e = sym (add-zero (g * 2 ^ e / one * one)) ∙ ap (λ (x : ℕ). g * 2 ^ e / one * one + x) (sym z) ∙ div-add-mod' (g * 2 ^ e) one in
            eq_of_mul-eq-mul_right (2 ^ e) (pow_pos e) (n * 2 ^ k) g (mul_assoc n (2 ^ k) (2 ^ e) ∙ ap₂ (λ (x y : ℕ). x * y) (sym q) (sym unit) ∙ r)

-- ---- a word

pub whole-character : (w : ℕ) → is_character w ≡ true → W.Character ≡ whole_of w
unfolding whole_of
whole-character w h = ap (λ (t : Bool). cond t W.Character (whole_units (sign w) (units w))) (sym h)

module _ (w : ℕ) (fits : w < 2 ^ 32) (plain : is_character w ≡ false) where
  -- the word's units, and its sign as a bit
  whole_plain : (n : ℕ) → units w ≡ n → whole_units (bit (eqb (sign w) 1)) n ≡ whole_of w
  unfolding whole_of
  whole_plain n h =
      ap₂ whole_units (signed (eqb (sign w) 1) refl) (sym h)
      ∙ ap (λ (t : Bool). cond t W.Character (whole_units (sign w) (units w))) (sym plain)
    where
      signed : (t : Bool) → eqb (sign w) 1 ≡ t → bit t ≡ sign w
      signed true e = sym (eqb-true (sign w) 1 e)
      signed false e = let k = eqb-false (sign w) 1 e in omega (arith, k)

  pub whole-of-float : (w / 2 ^ 30 % 2 ≡ 0 → ⊥) → whole_units (bit (eqb (sign w) 1)) ((2 ^ 22 + w % 2 ^ 22) * 2 ^ (w / 2 ^ 22 % 2 ^ 8)) ≡ whole_of w
  whole-of-float h = whole_plain _ (units-float w h)

  pub whole-of-zero : w / 2 ^ 30 % 2 ≡ 0 → magnitude w ≡ 0 → W.Number false 0 ≡ whole_of w
  whole-of-zero h z = integral-zero (bit (eqb (sign w) 1)) (magnitude w) z ∙ whole_plain _ (units-integer w h)

  pub whole-of-integer : w / 2 ^ 30 % 2 ≡ 0 → (magnitude w ≡ 0 → ⊥) → W.Number (eqb (sign w) 1) (magnitude w) ≡ whole_of w
  whole-of-integer h z = integral-integer (eqb (sign w) 1) (magnitude w) z (omega arith) ∙ whole_plain _ (units-integer w h)
