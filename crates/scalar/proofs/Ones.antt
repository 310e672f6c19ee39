-- Laws of rounding to a whole number of ones, down or up.
use Rattle.std.proofs.Common.{◌≡◌, ℕ, ◌+◌, ◌-◌, ◌*◌, ◌/◌, ◌%◌, ◌^◌, ◌<◌, ◌≤◌, sym, refl, ap, ◌∙◌, subst, lt_of_lt_of_le, lt_irrefl, mul-le-mul_right, mod-lt, mod-eq_of_lt, mul-le-mul, pos_of_ne-zero, mul-pos, one-mul, div-add-mod', zero-mul, mul-div_cancel, arith, lit<, pow_pos, pow_mono, le-ltb, lt-ltb, eq-eqb, ne_eqb, Ok}
use native.Mathlib.Nat.{mul-div-mul_right, div-eq_of_lt}
use lib.Arith.{digits_div}
use lib.Pow.{pow-lt}
use Rattle.scalar.specs.Value.{units}
use Rattle.descriptor.specs.Fields.{sign}
use Rattle.scalar.specs.Results.{integer}
use Rattle.scalar.specs.Operators.{ones, whole_near}
use Rattle.scalar.specs.Parts.{Unpacked}
use Rattle.scalar.proofs.Units.{units-integer, units-float}
use Rattle.scalar.proofs.Rounding.{join, up_lt}
use Rattle.scalar.proofs.Addition.{either}

-- the same quotient, rounded up, of a multiple
up-scaled : (g p q : ℕ) → 0 < p → 0 < q → (g * p + (q * p - 1)) / (q * p) ≡ (g + (q - 1)) / q
up-scaled g p q a b =
    let x : ℕ = (g + (q - 1)) / q in
    let y : ℕ = (g + (q - 1)) % q in
    let e : x * q + y ≡ g + (q - 1) = div-add-mod' (g + (q - 1)) q in
    let l : y < q = mod-lt (g + (q - 1)) b in
    let m : (x * q + y + 1) * p ≡ (g + q) * p = ap (λ (z : ℕ). z * p) (let w : x * q + y + 1 ≡ g + q = omega arith in w) in
    let k : (y + 1) * p ≤ q * p = mul-le-mul_right p (let w : y + 1 ≤ q = omega arith in w) in
    let h : 1 ≤ (y + 1) * p = mul-pos (omega arith) a in
    let n : 1 ≤ q * p = mul-pos b a in
    ap (λ (z : ℕ). z / (q * p)) (rest (g * p) (q * p) (x * (q * p)) ((y + 1) * p) n h (omega arith)) ∙ digits_div x (omega arith)
  where
    rest : (a b c d : ℕ) → 1 ≤ b → 1 ≤ d → a + b ≡ c + d → a + (b - 1) ≡ c + (d - 1)
    rest a b c d h k e = omega arith

-- above 0 and below d: one when rounded up
up_one : (n d : ℕ) → 0 < n → n < d → (n + (d - 1)) / d ≡ 1
up_one n d h l = ap (λ (x : ℕ). x / d) (let w : n + (d - 1) ≡ 1 * d + (n - 1) = omega arith in w) ∙ digits_div 1 (omega arith)

pub down_is : (up n : ℕ) → up ≡ 0 → ones up n ≡ n / 2 ^ 150
unfolding ones
down_is up n h = simp (eq-eqb up 0 h)

pub up_is : (up n : ℕ) → (up ≡ 0 → ⊥) → ones up n ≡ (n + (2 ^ 150 - 1)) / 2 ^ 150
unfolding ones
up_is up n h = simp (ne_eqb up 0 h)

pub whole-none : (up g e : ℕ) → g ≡ 0 → up < 2 → 0 ≡ ones up (g * 2 ^ e)
whole-none up g e h u =
    let z : g * 2 ^ e ≡ 0 = ap (λ (x : ℕ). x * 2 ^ e) h ∙ zero-mul (2 ^ e) in
    sym (ap (λ (n : ℕ). ones up n) z ∙ either (ones up 0 ≡ 0) up u (λ i. down_is up 0 i) (λ i. up_is up 0 (λ j. omega arith)))

pub whole_below : (up g e : ℕ) → 0 < g → g < 2 ^ 23 → e < 128 → up < 2 → up ≡ ones up (g * 2 ^ e)
whole_below up g e p l h u =
    let b : g * 2 ^ e < 2 ^ 150 = lt_of_lt_of_le (up_lt g 23 e (23 + e) l refl) (pow_mono {i = 23 + e} {j = 150} (omega arith)) in
    either (up ≡ ones up (g * 2 ^ e)) up u
    (λ i. i ∙ sym (down_is up (g * 2 ^ e) i ∙ div-eq_of_lt b))
    (λ i. i ∙ sym (up_is up (g * 2 ^ e) (λ j. omega arith) ∙ up_one (g * 2 ^ e) (2 ^ 150) (mul-pos p (pow_pos e)) b))

module _ (up g e k : ℕ) (s : k + e ≡ 150) where
  unit : 2 ^ k * 2 ^ e ≡ 2 ^ 150
  unit = join k e 150 s

  pub whole-down : up ≡ 0 → g / 2 ^ k ≡ ones up (g * 2 ^ e)
  whole-down h = sym (down_is up (g * 2 ^ e) h ∙ ap (λ (x : ℕ). g * 2 ^ e / x) (sym unit) ∙ mul-div-mul_right g (2 ^ k) (pow_pos e))

  pub whole-up : (up ≡ 0 → ⊥) → (g + (2 ^ k - 1)) / 2 ^ k ≡ ones up (g * 2 ^ e)
  whole-up h = sym (up_is up (g * 2 ^ e) h ∙ ap (λ (x : ℕ). (g * 2 ^ e + (x - 1)) / x) (sym unit) ∙ up-scaled g (2 ^ e) (2 ^ k) (pow_pos e) (pow_pos k))

-- an integer of magnitude m
pub whole-integer : (up m : ℕ) → up < 2 → ones up (m * 2 ^ 150) ≡ m
whole-integer up m u =
    either (ones up (m * 2 ^ 150) ≡ m) up u (λ i. down_is up (m * 2 ^ 150) i ∙ mul-div_cancel m (pow_pos 150)) (λ i. up_is up (m * 2 ^ 150) (λ j. omega arith) ∙ digits_div m (lit< tt))

-- a power that a shift makes
pub one_shifted : (k : ℕ) → k < 64 → (1 * 2 ^ k) % 2 ^ 64 ≡ 2 ^ k
one_shifted k h = mod-eq_of_lt (up-lt-one k h) ∙ one-mul (2 ^ k)
  where
    up-lt-one : (k : ℕ) → k < 64 → 1 * 2 ^ k < 2 ^ 64
    up-lt-one k h = subst (λ (x : ℕ). x < 2 ^ 64) (sym (one-mul (2 ^ k))) (pow-lt h)

-- ---- of a word: an integer, a float from 2 ^ 23, and a smaller one

pub whole-of-integer : (w up : ℕ) → up < 2 → w / 2 ^ 30 % 2 ≡ 0 → integer (sign w) (w % 2 ^ 23) ≡ whole_near up w
unfolding whole_near
whole-of-integer w up u h =
    let e : units w ≡ w % 2 ^ 23 * 2 ^ 150 = units-integer w h in
    let l : units w < 2 ^ 173 = subst (λ (x : ℕ). x < 2 ^ 173) (sym e) (up_lt (w % 2 ^ 23) 23 150 173 (omega arith) refl) in
    sym (simp (lt-ltb (units w) (2 ^ 173) l) (ap (λ (x : ℕ). integer (sign w) (ones up x)) e ∙ ap (λ (x : ℕ). integer (sign w) x) (whole-integer up (w % 2 ^ 23) u)))

module _ (w up g e : ℕ) (u : Unpacked w g e) where
  -- a float is not zero
  digits-pos : (w / 2 ^ 30 % 2 ≡ 0 → ⊥) → 0 < g
  digits-pos n =
      pos_of_ne-zero (λ (z : g ≡ 0). lt_irrefl 0
      (subst (λ (x : ℕ). 0 < x) (sym (units-float w n) ∙ u.value ∙ ap (λ (x : ℕ). x * 2 ^ e) z ∙ zero-mul (2 ^ e)) (mul-pos {m = 2 ^ 22 + w % 2 ^ 22} (omega arith) (pow_pos (w / 2 ^ 22 % 2 ^ 8)))))

  pub whole-large : 150 < e → (w / 2 ^ 30 % 2 ≡ 0 → ⊥) → Ok w ≡ whole_near up w
  unfolding whole_near
  whole-large h n =
      let p = digits-pos n in
      sym (simp (le-ltb (units w) (2 ^ 173) (subst (λ (x : ℕ). 2 ^ 173 ≤ x) (sym u.value) (mul-le-mul {n₁ = 2 ^ 22} {m₁ = 2 ^ 151} {n₂ = g} {m₂ = 2 ^ e} (u.normal p) (pow_mono {i = 151} {j = e} h)))))

  pub whole-small : e < 151 → integer (sign w) (ones up (g * 2 ^ e)) ≡ whole_near up w
  unfolding whole_near
  whole-small h =
      let l : units w < 2 ^ 173 = subst (λ (x : ℕ). x < 2 ^ 173) (sym u.value) (lt_of_lt_of_le (up_lt g 23 e (23 + e) u.short refl) (pow_mono {i = 23 + e} {j = 173} (omega arith))) in
      sym (simp (lt-ltb (units w) (2 ^ 173) l) (ap (λ (x : ℕ). integer (sign w) (ones up x)) u.value))
