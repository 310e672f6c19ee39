-- What `units` is of an integer and of a float, and an integer's magnitude with its top bit brought to bit 22.
use Rattle.std.proofs.Common.{◌≡◌, ℕ, suc, ◌+◌, ◌-◌, ◌*◌, ◌/◌, ◌%◌, ◌^◌, ◌<◌, ◌≤◌, Bool, true, false, cond, eqb, sym, refl, ap, ◌∙◌, subst, lt_trans, lt_of_le_of_lt, lt_irrefl, mod-eq_of_lt, mul_assoc, pos_of_ne-zero, mul-pos, lt_of_not-le, zero-mul, not-le_of_lt, arith, lit<, pow_pos, pow_mono, eq-eqb, ne_eqb, eqb-true, Ok}
use lib.Count.{count_leading_zeros, leading_top}
use Rattle.scalar.specs.Value.{one, units}
use Rattle.descriptor.specs.Fields.{integer_word}
use Rattle.scalar.specs.Operators.{with_sign}
use Rattle.scalar.specs.Parts.{Unpacked, Normal}
use Rattle.scalar.proofs.Operands.{not_float, is-float}
use Rattle.scalar.proofs.Rounding.{join, up_le, up_lt}

pub units-integer : (w : ℕ) → w / 2 ^ 30 % 2 ≡ 0 → units w ≡ w % 2 ^ 23 * 2 ^ 150
unfolding units
units-integer w h = simp (not_float w h)

pub units-float : (w : ℕ) → (w / 2 ^ 30 % 2 ≡ 0 → ⊥) → units w ≡ (2 ^ 22 + w % 2 ^ 22) * 2 ^ (w / 2 ^ 22 % 2 ^ 8)
unfolding units
units-float w h = simp (is-float w h)

pub unpacked-zero : (w : ℕ) → w / 2 ^ 30 % 2 ≡ 0 → w % 2 ^ 23 ≡ 0 → Unpacked w 0 0
unpacked-zero w h k = record { value = units-integer w h ∙ ap (λ (x : ℕ). x * 2 ^ 150) k; short = lit< tt; small = lit< tt; normal = λ p. omega arith }

pub unpacked-float : (w : ℕ) → (w / 2 ^ 30 % 2 ≡ 0 → ⊥) → Unpacked w (2 ^ 22 + w % 2 ^ 22) (w / 2 ^ 22 % 2 ^ 8)
unpacked-float w h = record { value = units-float w h; short = omega arith; small = omega arith; normal = λ p. omega arith }

module _ (m : ℕ) (p : 0 < m) (f : m < 2 ^ 23) where
  abbrev z : ℕ
  z = count_leading_zeros 32 m

  -- the place of the highest set bit
  top : (j : ℕ) × (z + suc j ≡ 32) × (2 ^ j ≤ m) × (m < 2 ^ suc j)
  top = leading_top 32 m p (lt_trans f (lit< tt))

  place : top.0 < 23
  place = lt_of_not-le (λ (g : 23 ≤ top.0). not-le_of_lt (lt_of_le_of_lt top.2 f) (pow_mono g))

  pub zeros-ge : 9 ≤ z
  zeros-ge = omega (arith, top.1, place)

  pub zeros-lt : z < 32
  zeros-lt = omega (arith, top.1)

  shifted-lt : m * 2 ^ (z - 9) < 2 ^ 23
  shifted-lt = up_lt m (suc top.0) (z - 9) 23 top.3 (omega (arith, top.1, zeros-ge))

  kept : (m * 2 ^ (z - 9)) % 2 ^ 32 ≡ m * 2 ^ (z - 9)
  kept = mod-eq_of_lt (lt_trans shifted-lt (lit< tt))

  pub unpacked-integer : (w : ℕ) → w / 2 ^ 30 % 2 ≡ 0 → w % 2 ^ 23 ≡ m → Unpacked w ((m * 2 ^ (z - 9)) % 2 ^ 32) (159 - z)
  unpacked-integer w h k =
      subst (λ (x : ℕ). Unpacked w x (159 - z)) (sym kept) (record {
        value =
            units-integer w h ∙ ap (λ (x : ℕ). x * 2 ^ 150) k ∙ ap (λ (x : ℕ). m * x) (sym (join (z - 9) (159 - z) 150 (omega (arith, zeros-ge, zeros-lt))))
            ∙ sym (mul_assoc m (2 ^ (z - 9)) (2 ^ (159 - z)));
        short = shifted-lt;
        small = omega (arith, zeros-lt);
        normal = λ g. up_le m top.0 (z - 9) 22 top.2 (omega (arith, top.1, zeros-ge));
      })

-- ---- a number with another sign

module _ (s w : ℕ) where
  signed : (t : Bool) → eqb (units w) 0 ≡ t → Ok (cond t 0 (s * 2 ^ 31 + w % 2 ^ 31)) ≡ with_sign s w
  signed t h = ap (λ (x : Bool). Ok (cond x 0 (s * 2 ^ 31 + w % 2 ^ 31))) (sym h)

  pub sign-none : w / 2 ^ 30 % 2 ≡ 0 → w % 2 ^ 23 ≡ 0 → Ok 0 ≡ with_sign s w
  sign-none h z = signed true (eq-eqb (units w) 0 (units-integer w h ∙ ap (λ (x : ℕ). x * one) z ∙ zero-mul one))

  some : (n e : ℕ) → units w ≡ n * 2 ^ e → 0 < n → Ok (s * 2 ^ 31 + w % 2 ^ 31) ≡ with_sign s w
  some n e q p = signed false (ne_eqb (units w) 0 (λ (z : units w ≡ 0). lt_irrefl 0 (subst (λ (x : ℕ). 0 < x) (sym q ∙ z) (mul-pos p (pow_pos e)))))

  pub sign-integer : w / 2 ^ 30 % 2 ≡ 0 → (w % 2 ^ 23 ≡ 0 → ⊥) → Ok (s * 2 ^ 31 + w % 2 ^ 31) ≡ with_sign s w
  sign-integer h z = some (w % 2 ^ 23) 150 (units-integer w h) (pos_of_ne-zero z)

  pub sign-float : (w / 2 ^ 30 % 2 ≡ 0 → ⊥) → Ok (s * 2 ^ 31 + w % 2 ^ 31) ≡ with_sign s w
  sign-float h = some (2 ^ 22 + w % 2 ^ 22) (w / 2 ^ 22 % 2 ^ 8) (units-float w h) (omega arith)

pub unpacked-normal : {w g e : ℕ} → Unpacked w g e → (g ≡ 0 → ⊥) → Normal g e
unpacked-normal u h = record { long = u.normal (pos_of_ne-zero h); short = u.short; small = u.small }

-- a code is its own integer
pub integer-code : (n : ℕ) → n ≡ integer_word 0 n
integer-code n = by (eqb n 0) refl
  where
    by : (t : Bool) → eqb n 0 ≡ t → n ≡ cond t 0 (0 * 2 ^ 31 + n)
    by true e = eqb-true n 0 e
    by false e = omega arith
