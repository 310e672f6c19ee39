-- FLOOR and CEILING give the neighbouring whole numbers: the magnitude is rounded down or up by the sign, and a float from
-- 2 ^ 23 on is whole.
use Rattle.std.proofs.Common.{Ok}
use Prim.Native.Nat.{ℕ, ◌+◌, ◌-◌, ◌*◌, ◌/◌, ◌%◌, ◌^◌, ◌≤◌, ◌<◌}
use mathlib.Core.Path.{◌≡◌, refl, sym, ap, ◌∙◌, subst}
use mathlib.Core.Bool.{Bool, false, cond}
use mathlib.Core.Logic.{⊎_elim}
use native.Mathlib.Nat.{eq-zero-or-pos, mul_assoc, mul-le-mul, mul-le-mul_right, mul-le-mul_left, mul-lt-mul_of_pos_right, div-lt_iff_lt-mul, lt_of_lt_of_le, lt_of_not-le, not-le_of_lt, le_of_lt, le_of_mul-le-mul_right, lt_trans}
use native.Mathlib.Decide.{dec_lt, ℕ_discrete}
use native.Mathlib.Omega.{arith}
use borrow.Author.Tests.{lt-ltb, le-ltb, eq-eqb, ne_eqb}
use lib.Dec.{lit<}
use lib.Pow.{pow_pos, pow_mono}
use Rattle.descriptor.specs.Fields.{sign, is_character, integer_word}
use Rattle.scalar.specs.Value.{one, units}
use Rattle.scalar.specs.Results.{integer, integer_overflow}
use Rattle.scalar.specs.Operators.{ones, whole_near, floor, ceiling}
use Rattle.scalar.proofs.Operands.{number-plain}
use Rattle.scalar.proofs.Rounding.{not-lt-le, join}
use Rattle.scalar.proofs.Units.{units-integer, units-float}
use Rattle.scalar.proofs.Addition.{either}
use Rattle.scalar.proofs.Ones.{down_is, up_is}
use Rattle.scalar_theorems.specs.Line.{middle, line_place}
use Rattle.scalar_theorems.specs.Neighbours.{Greatest, Least, Neighbours}
use Rattle.scalar_theorems.proofs.Words.{below-middle}
use Rattle.scalar_theorems.proofs.Comparing.{integer-none}
use Rattle.scalar_theorems.proofs.Multiples.{Below, Above, below_at, above_at, below-plus, below-minus, above-plus, above-minus, down-lo, down-hi, up-lo, up-hi, sum-multiple, difference-multiple, itself-below, itself-above}

-- ---- places

place-plus : (w : ℕ) → sign w ≡ 0 → line_place w ≡ middle + units w
unfolding line_place
place-plus w h = ap (λ (t : Bool). cond t (middle + units w) (middle - units w)) (eq-eqb (sign w) 0 h)

place-minus : (w : ℕ) → (sign w ≡ 0 → ⊥) → line_place w ≡ middle - units w
unfolding line_place
place-minus w h = ap (λ (t : Bool). cond t (middle + units w) (middle - units w)) (ne_eqb (sign w) 0 h)

-- the integer of sign s and magnitude k
integer-units : (s k : ℕ) → s < 2 → k < 2 ^ 23 → 0 < k → (integer_word s k ≡ s * 2 ^ 31 + k) × (units (s * 2 ^ 31 + k) ≡ k * one)
integer-units s k p l z =
    (simp (ne_eqb k 0 (λ y. omega arith)), units-integer (s * 2 ^ 31 + k) (omega arith) ∙ ap (λ (x : ℕ). x * one) (let e : (s * 2 ^ 31 + k) % 2 ^ 23 ≡ k = omega arith in e))

place-zero : line_place 0 ≡ middle
unfolding line_place units
place-zero = refl

integer-plus : (k : ℕ) → k < 2 ^ 23 → line_place (integer_word 0 k) ≡ middle + k * one
integer-plus k l = ⊎_elim
    (λ (z : k ≡ 0). ap line_place (integer-none 0 k z) ∙ place-zero ∙ sym (ap (λ (x : ℕ). middle + x * one) z))
    (λ (z : 0 < k). let u = integer-units 0 k (lit< tt) l z in ap line_place u.0 ∙ place-plus (0 * 2 ^ 31 + k) (omega arith) ∙ ap (λ (x : ℕ). middle + x) u.1)
    (eq-zero-or-pos k)

integer-minus : (k : ℕ) → k < 2 ^ 23 → line_place (integer_word 1 k) ≡ middle - k * one
integer-minus k l = ⊎_elim
    (λ (z : k ≡ 0). ap line_place (integer-none 1 k z) ∙ place-zero ∙ sym (ap (λ (x : ℕ). middle - x * one) z))
    (λ (z : 0 < k). let u = integer-units 1 k (lit< tt) l z in ap line_place u.0 ∙ place-minus (1 * 2 ^ 31 + k) (λ y. omega arith) ∙ ap (λ (x : ℕ). middle - x) u.1)
    (eq-zero-or-pos k)

-- ---- numbers below 2 ^ 23, which is 2 ^ 173 units, and from there on

-- the exponent of such a float
exponent-le : (g e : ℕ) → 2 ^ 22 ≤ g → g * 2 ^ e < 2 ^ 173 → e ≤ 150
exponent-le g e l h = not-lt-le (λ (k : 150 < e). not-le_of_lt h (mul-le-mul {n₁ = 2 ^ 22} {m₁ = 2 ^ 151} {n₂ = g} {m₂ = 2 ^ e} l (pow_mono {i = 151} {j = e} k)))

-- it is at most 2 ^ 23 - 1
at_most : (a : ℕ) → units a < 2 ^ 173 → units a ≤ (2 ^ 23 - 1) * one
at_most a h = elim (ℕ_discrete (a / 2 ^ 30 % 2) 0) [
  | yes p ↦ subst (λ (x : ℕ). x ≤ (2 ^ 23 - 1) * one) (sym (units-integer a p)) (mul-le-mul_right one (let e : a % 2 ^ 23 ≤ 2 ^ 23 - 1 = omega arith in e))
  | no p ↦ subst (λ (x : ℕ). x ≤ (2 ^ 23 - 1) * one) (sym (units-float a p)) (mul-le-mul {n₁ = 2 ^ 22 + a % 2 ^ 22} {m₁ = 2 ^ (a / 2 ^ 22 % 2 ^ 8)} {n₂ = 2 ^ 23 - 1} {m₂ = one} (omega arith) (pow_mono {i = a / 2 ^ 22 % 2 ^ 8} {j = 150} (exponent-le (2 ^ 22 + a % 2 ^ 22) (a / 2 ^ 22 % 2 ^ 8) (omega arith) (subst (λ (x : ℕ). x < 2 ^ 173) (units-float a p) h))))
]

-- whole from there on
whole_from : (a : ℕ) → 2 ^ 173 ≤ units a → (j : ℕ) × (units a ≡ j * one)
whole_from a h = elim (ℕ_discrete (a / 2 ^ 30 % 2) 0) [
  | yes p ↦ (a % 2 ^ 23, units-integer a p)
  | no p ↦ (
    (2 ^ 22 + a % 2 ^ 22) * 2 ^ (a / 2 ^ 22 % 2 ^ 8 - 150),
    units-float a p ∙ ap (λ (x : ℕ). (2 ^ 22 + a % 2 ^ 22) * x) (sym (join (a / 2 ^ 22 % 2 ^ 8 - 150) 150 (a / 2 ^ 22 % 2 ^ 8) (let k = large p in omega arith))) ∙ sym (mul_assoc (2 ^ 22 + a % 2 ^ 22) (2 ^ (a / 2 ^ 22 % 2 ^ 8 - 150)) one),
  )
]
  where
    large : (a / 2 ^ 30 % 2 ≡ 0 → ⊥) → 150 < a / 2 ^ 22 % 2 ^ 8
    large p = lt_of_not-le (λ (k : a / 2 ^ 22 % 2 ^ 8 ≤ 150). not-le_of_lt (lt_of_lt_of_le (mul-lt-mul_of_pos_right {m = 2 ^ 22 + a % 2 ^ 22} {n = 2 ^ 23} {k = 2 ^ (a / 2 ^ 22 % 2 ^ 8)} (omega arith) (pow_pos (a / 2 ^ 22 % 2 ^ 8))) (mul-le-mul_left (2 ^ 23) (pow_mono {i = a / 2 ^ 22 % 2 ^ 8} {j = 150} k))) (subst (λ (x : ℕ). 2 ^ 173 ≤ x) (units-float a p) h))

module _ (a : ℕ) (fits : a < 2 ^ 32) where
  -- ---- below 2 ^ 23

  module _ (l : units a < 2 ^ 173) where
    ones_lt : (up : ℕ) → up < 2 → ones up (units a) < 2 ^ 23
    ones_lt up p =
        let m = at_most a l in
        either (ones up (units a) < 2 ^ 23) up p
        (λ z. subst (λ (x : ℕ). x < 2 ^ 23) (sym (down_is up (units a) z)) ((div-lt_iff_lt-mul {k = one} {x = units a} {y = 2 ^ 23} (pow_pos 150)).1 l))
        (λ z. subst (λ (x : ℕ). x < 2 ^ 23) (sym (up_is up (units a) (λ y. omega arith))) ((div-lt_iff_lt-mul {k = one} {x = units a + (one - 1)} {y = 2 ^ 23} (pow_pos 150)).1 (room (units a) one (pow_pos 150) m)))
      where
        room : (x o : ℕ) → 0 < o → x ≤ (2 ^ 23 - 1) * o → x + (o - 1) < 2 ^ 23 * o
        room x o c h = omega arith

    near : (up : ℕ) → up < 2 → whole_near up a ≡ Ok (integer_word (sign a) (ones up (units a)))
    unfolding whole_near integer
    near up p =
        ap (λ (t : Bool). cond t (integer (sign a) (ones up (units a))) (Ok a)) (lt-ltb (units a) (2 ^ 173) l)
        ∙ ap (λ (t : Bool). cond t (Ok (integer_word (sign a) (ones up (units a)))) integer_overflow) (lt-ltb (ones up (units a)) (2 ^ 23) (ones_lt up p))

    few : (up : ℕ) → up < 2 → ones up (units a) ≤ 2 ^ 128
    few up p = le_of_lt (lt_trans (ones_lt up p) (lit< tt))

    -- the result, and its place by the sign
    result : ℕ → ℕ
    result up = integer_word (sign a) (ones up (units a))

    positive : (up : ℕ) → up < 2 → sign a ≡ 0 → line_place (result up) ≡ middle + ones up (units a) * one
    unfolding result
    positive up p z = ap (λ (s : ℕ). line_place (integer_word s (ones up (units a)))) z ∙ integer-plus (ones up (units a)) (ones_lt up p)

    negative : (up : ℕ) → up < 2 → sign a ≡ 1 → line_place (result up) ≡ middle - ones up (units a) * one
    unfolding result
    negative up p z = ap (λ (s : ℕ). line_place (integer_word s (ones up (units a)))) z ∙ integer-minus (ones up (units a)) (ones_lt up p)

    -- Of a positive number FLOOR rounds down and CEILING up, of a negative one the other way round.

    floor-below : Below one (line_place a) (line_place (result (sign a)))
    floor-below = either (Below one (line_place a) (line_place (result (sign a)))) (sign a) (omega arith)
        (λ z. below_at (place-plus a z) (positive (sign a) (omega arith) z)
        (subst (λ (x : ℕ). Below one (middle + units a) (middle + x * one)) (sym (down_is (sign a) (units a) z)) (below-plus one (pow_pos 150) (2 ^ 128) (units a) (units a / one) (down-lo one (pow_pos 150) (units a)) (down-hi one (pow_pos 150) (units a)))))
        (λ z. let u = up_is (sign a) (units a) (λ y. omega arith) in
        below_at (place-minus a (λ y. omega arith)) (negative (sign a) (omega arith) z)
        (subst (λ (x : ℕ). Below one (middle - units a) (middle - x * one)) (sym u) (below-minus one (pow_pos 150) (2 ^ 128) (units a) ((units a + (one - 1)) / one) (up-lo one (pow_pos 150) (units a)) (up-hi one (pow_pos 150) (units a)) (subst (λ (x : ℕ). x ≤ 2 ^ 128) u (few (sign a) (omega arith))) (le_of_lt (below-middle a)))))

    ceiling-above : Above one (line_place a) (line_place (result (1 - sign a)))
    ceiling-above = either (Above one (line_place a) (line_place (result (1 - sign a)))) (sign a) (omega arith)
        (λ z. let u = up_is (1 - sign a) (units a) (λ y. omega arith) in
        above_at (place-plus a z) (positive (1 - sign a) (omega arith) z)
        (subst (λ (x : ℕ). Above one (middle + units a) (middle + x * one)) (sym u) (above-plus one (pow_pos 150) (2 ^ 128) (units a) ((units a + (one - 1)) / one) (up-lo one (pow_pos 150) (units a)) (up-hi one (pow_pos 150) (units a)))))
        (λ z. let u = down_is (1 - sign a) (units a) (omega arith) in
        above_at (place-minus a (λ y. omega arith)) (negative (1 - sign a) (omega arith) z)
        (subst (λ (x : ℕ). Above one (middle - units a) (middle - x * one)) (sym u) (above-minus one (pow_pos 150) (2 ^ 128) (units a) (units a / one) (down-lo one (pow_pos 150) (units a)) (down-hi one (pow_pos 150) (units a)) (subst (λ (x : ℕ). x ≤ 2 ^ 128) u (few (1 - sign a) (omega arith))))))

  -- ---- from 2 ^ 23 on

  module _ (l : 2 ^ 173 ≤ units a) where
    far : (up : ℕ) → whole_near up a ≡ Ok a
    unfolding whole_near
    far up = ap (λ (t : Bool). cond t (integer (sign a) (ones up (units a))) (Ok a)) (le-ltb (units a) (2 ^ 173) l)

    place-whole : line_place a % one ≡ 0
    place-whole =
        let w = whole_from a l in
        let m : w.0 ≤ 2 ^ 128 = le_of_mul-le-mul_right {m = w.0} {n = 2 ^ 128} {k = one} (le_of_lt (subst (λ (x : ℕ). x < middle) w.1 (below-middle a))) (pow_pos 150) in
        either (line_place a % one ≡ 0) (sign a) (omega arith)
        (λ z. ap (λ (x : ℕ). x % one) (place-plus a z ∙ ap (λ (x : ℕ). middle + x) w.1) ∙ sum-multiple one (pow_pos 150) (2 ^ 128) w.0)
        (λ z. ap (λ (x : ℕ). x % one) (place-minus a (λ y. omega arith) ∙ ap (λ (x : ℕ). middle - x) w.1) ∙ difference-multiple one (pow_pos 150) (2 ^ 128) w.0 m)

  greatest : {r : ℕ} → Below one (line_place a) (line_place r) → Greatest a r
  greatest b = record { whole = b.multiple; under = b.under; most = b.most }

  least : {r : ℕ} → Above one (line_place a) (line_place r) → Least a r
  least b = record { whole = b.multiple; over = b.over; fewest = b.fewest }

  module _ (plain : is_character a ≡ false) where
    floor-is : (r : ℕ) × (floor a ≡ Ok r) × Greatest a r
    unfolding floor result
    floor-is = elim (dec_lt (units a) (2 ^ 173)) [
      | yes l ↦ (integer_word (sign a) (ones (sign a) (units a)), number-plain a (whole_near (sign a) a) plain ∙ near l (sign a) (omega arith), greatest (floor-below l))
      | no l ↦ (a, number-plain a (whole_near (sign a) a) plain ∙ far (not-lt-le l) (sign a), greatest (itself-below one (pow_pos 150) (line_place a) (place-whole (not-lt-le l))))
    ]

    ceiling-is : (r : ℕ) × (ceiling a ≡ Ok r) × Least a r
    unfolding ceiling result
    ceiling-is = elim (dec_lt (units a) (2 ^ 173)) [
      | yes l ↦ (integer_word (sign a) (ones (1 - sign a) (units a)), number-plain a (whole_near (1 - sign a) a) plain ∙ near l (1 - sign a) (omega arith), least (ceiling-above l))
      | no l ↦ (a, number-plain a (whole_near (1 - sign a) a) plain ∙ far (not-lt-le l) (1 - sign a), least (itself-above one (pow_pos 150) (line_place a) (place-whole (not-lt-le l))))
    ]

pub neighbours : Neighbours
neighbours = record { floor = floor-is; ceiling = ceiling-is }
