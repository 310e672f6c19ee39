-- Laws of the reading as zero or one, by the word: an integer's magnitude, or the float 1.
use Rattle.std.proofs.Common.{◌≡◌, ℕ, ◌+◌, ◌*◌, ◌/◌, ◌%◌, ◌^◌, ◌<◌, Bool, true, false, cond, ◌&&◌, eqb, sym, ap, ◌∙◌, subst, ap₂, lt_of_lt_of_le, lt_irrefl, mul-le-mul, pos_of_ne-zero, mul-le-mul_left, mul-lt-mul_of_pos_right, mul-pos, one-mul, zero-mul, arith, pow_pos, pow_mono, pow-add, eq-eqb, ne_eqb}
use native.Mathlib.Nat.{eq_of_mul-eq-mul_right}
use native.Mathlib.Decide.{ℕ_discrete}
use Rattle.descriptor.specs.Fields.{sign, is_character, magnitude}
use Rattle.scalar.specs.Value.{one, units}
use Rattle.scalar.specs.Reading.{truth_of, truth_units}
use Rattle.scalar.specs.declared.Truth.TheVariants as T
use Rattle.scalar.proofs.Units.{units-integer, units-float}

-- ---- by the number of units

module _ (s n : ℕ) where
  pub is_zero : n ≡ 0 → T.Value false ≡ truth_units s n
  unfolding truth_units
  is_zero h = sym (ap (λ (t : Bool). cond t (T.Value false) (cond (eqb n one && eqb s 0) (T.Value true) T.Other)) (eq-eqb n 0 h))

  past-zero : (n ≡ 0 → ⊥) → truth_units s n ≡ cond (eqb n one && eqb s 0) (T.Value true) T.Other
  unfolding truth_units
  past-zero h = ap (λ (t : Bool). cond t (T.Value false) (cond (eqb n one && eqb s 0) (T.Value true) T.Other)) (ne_eqb n 0 h)

  pub is_one : (n ≡ 0 → ⊥) → n ≡ one → s ≡ 0 → T.Value true ≡ truth_units s n
  is_one z h k = sym (past-zero z ∙ ap₂ (λ (t u : Bool). cond (t && u) (T.Value true) T.Other) (eq-eqb n one h) (eq-eqb s 0 k))

  pub not-one : (n ≡ 0 → ⊥) → (n ≡ one → ⊥) → T.Other ≡ truth_units s n
  not-one z h = sym (past-zero z ∙ ap (λ (t : Bool). cond (t && eqb s 0) (T.Value true) T.Other) (ne_eqb n one h))

  pub minus_one : (n ≡ 0 → ⊥) → n ≡ one → (s ≡ 0 → ⊥) → T.Other ≡ truth_units s n
  minus_one z h k = sym (past-zero z ∙ ap₂ (λ (t u : Bool). cond (t && u) (T.Value true) T.Other) (eq-eqb n one h) (ne_eqb s 0 k))

-- ---- an integer of magnitude m

ones-zero : (m : ℕ) → (m ≡ 0 → ⊥) → m * one ≡ 0 → ⊥
ones-zero m h z = lt_irrefl 0 (subst (λ (x : ℕ). 0 < x) z (mul-pos (pos_of_ne-zero h) (pow_pos 150)))

ones-one : (m : ℕ) → m * one ≡ one → m ≡ 1
ones-one m h = eq_of_mul-eq-mul_right one (pow_pos 150) m 1 (h ∙ sym (one-mul one))

module _ (w : ℕ) (h : w / 2 ^ 30 % 2 ≡ 0) where
  size : units w ≡ magnitude w * one
  size = units-integer w h

  pub integer-zero : magnitude w ≡ 0 → T.Value false ≡ truth_units (sign w) (units w)
  integer-zero z = is_zero (sign w) (units w) (size ∙ ap (λ (x : ℕ). x * one) z ∙ zero-mul one)

  past : (magnitude w ≡ 0 → ⊥) → units w ≡ 0 → ⊥
  past z e = ones-zero (magnitude w) z (sym size ∙ e)

  unit : magnitude w ≡ 1 → units w ≡ one
  unit e = size ∙ ap (λ (x : ℕ). x * one) e ∙ one-mul one

  pub integer-one : magnitude w ≡ 1 → sign w ≡ 0 → T.Value true ≡ truth_units (sign w) (units w)
  integer-one e s = is_one (sign w) (units w) (past (λ z. omega arith)) (unit e) s

  pub integer-minus : magnitude w ≡ 1 → (sign w ≡ 0 → ⊥) → T.Other ≡ truth_units (sign w) (units w)
  integer-minus e s = minus_one (sign w) (units w) (past (λ z. omega arith)) (unit e) s

  pub integer-other : (magnitude w ≡ 0 → ⊥) → (magnitude w ≡ 1 → ⊥) → T.Other ≡ truth_units (sign w) (units w)
  integer-other z e = not-one (sign w) (units w) (past z) (λ q. e (ones-one (magnitude w) (sym size ∙ q)))

-- ---- a float: one is (2 ^ 22 + 0) * 2 ^ 128 units

pub float_one : (w : ℕ) → w ≡ 0x60000000 → T.Value true ≡ truth_units (sign w) (units w)
unfolding truth_units units
float_one w h = ap (λ (x : ℕ). truth_units (sign x) (units x)) (sym h)

module _ (f e : ℕ) (hi : f < 2 ^ 22) (q : (2 ^ 22 + f) * 2 ^ e ≡ one) where
  not-below : e < 128 → ⊥
  not-below l = lt_irrefl one (subst (λ (x : ℕ). x < one) q (lt_of_lt_of_le (mul-lt-mul_of_pos_right {m = 2 ^ 22 + f} {n = 2 ^ 23} {k = 2 ^ e} (omega arith) (pow_pos e)) (mul-le-mul_left {m = 2 ^ e} {n = 2 ^ 127} (2 ^ 23) (pow_mono {i = e} {j = 127} (omega arith)))))

  not-above : 128 < e → ⊥
  not-above l = lt_irrefl one (subst (λ (x : ℕ). one < x) q (lt_of_lt_of_le (doubled 150) (mul-le-mul {n₁ = 2 ^ 22} {m₁ = 2 ^ 129} {n₂ = 2 ^ 22 + f} {m₂ = 2 ^ e} (omega arith) (pow_mono {i = 129} {j = e} l))))
    where
      doubled : (k : ℕ) → 2 ^ k < 2 ^ (1 + k)
      doubled k = subst (λ (x : ℕ). 2 ^ k < x) (sym (pow-add 2 1 k)) (omega (arith, pow_pos k))

  one-exponent : e ≡ 128
  one-exponent = omega (arith, not-below, not-above)

  one-fraction : f ≡ 0
  one-fraction = omega (arith, eq_of_mul-eq-mul_right (2 ^ 128) (pow_pos 128) (2 ^ 22 + f) (2 ^ 22) (ap (λ (x : ℕ). (2 ^ 22 + f) * 2 ^ x) (sym one-exponent) ∙ q))

module _ (w : ℕ) (fits : w < 2 ^ 32) (h : w / 2 ^ 30 % 2 ≡ 0 → ⊥) where
  float-past : units w ≡ 0 → ⊥
  float-past z = lt_irrefl 0 (subst (λ (x : ℕ). 0 < x) (sym (units-float w h) ∙ z) (mul-pos {m = 2 ^ 22 + w % 2 ^ 22} (omega arith) (pow_pos (w / 2 ^ 22 % 2 ^ 8))))

  one_word : units w ≡ one → w % 2 ^ 31 ≡ 0x60000000
  one_word q =
      let r : (2 ^ 22 + w % 2 ^ 22) * 2 ^ (w / 2 ^ 22 % 2 ^ 8) ≡ one = sym (units-float w h) ∙ q in
      omega (arith, one-exponent (w % 2 ^ 22) (w / 2 ^ 22 % 2 ^ 8) (omega arith) r, one-fraction (w % 2 ^ 22) (w / 2 ^ 22 % 2 ^ 8) (omega arith) r, h)

  pub float-other : (w ≡ 0x60000000 → ⊥) → T.Other ≡ truth_units (sign w) (units w)
  float-other n = elim (ℕ_discrete (units w) one) [
    | yes e ↦ minus_one (sign w) (units w) float-past e (λ (s : sign w ≡ 0). n (omega (arith, one_word e)))
    | no e ↦ not-one (sign w) (units w) float-past e
  ]

-- ---- characters

pub truth-character : (w : ℕ) → is_character w ≡ true → T.Character ≡ truth_of w
unfolding truth_of
truth-character w h = ap (λ (t : Bool). cond t T.Character (truth_units (sign w) (units w))) (sym h)

pub truth-plain : (w : ℕ) → is_character w ≡ false → truth_units (sign w) (units w) ≡ truth_of w
unfolding truth_of
truth-plain w h = ap (λ (t : Bool). cond t T.Character (truth_units (sign w) (units w))) (sym h)
