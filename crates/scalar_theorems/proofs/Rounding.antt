-- `rounded` gives the nearest float, and its traps are where the statement has them.
use Rattle.std.proofs.Common.{Ok}
use Prim.Native.Nat.{ℕ, ◌+◌, ◌-◌, ◌*◌, ◌/◌, ◌%◌, ◌^◌, ◌≤◌, ◌<◌}
use mathlib.Core.Path.{◌≡◌, sym, ◌∙◌, subst}
use mathlib.Core.Bool.{true}
use mathlib.Core.Logic.{◌⊎◌, inl, inr, ⊎_elim}
use native.Mathlib.Nat.{mul_assoc, mul_comm, mul-le-mul_right, mul-pos, lt_of_lt_of_le, le_trans, le_of_eq, not-le_of_lt, lt_of_not-le}
use native.Mathlib.Decide.{dec_lt}
use native.Mathlib.Omega.{arith}
use borrow.Author.Tests.{eqb-true}
use lib.Dec.{lit<}
use lib.Pow.{pow_mono, pow_pos}
use lib.Ieee.{size}
use lib.Ieee.Nearest.{closest_mono}
use Rattle.descriptor.specs.Fields.{is_float, exponent, fraction}
use Rattle.scalar.specs.Value.{units}
use Rattle.scalar.specs.Results.{overflow, rounded}
use Rattle.scalar.proofs.Units.{units-float}
use Rattle.scalar.proofs.Rounding.{rounded-none, rounded-under, float_fits, float-over, not-lt-le}
use Rattle.scalar_theorems.specs.Line.{gap}
use Rattle.scalar_theorems.specs.Rounding.{Nearest, Rounds}
use Rattle.scalar_theorems.proofs.Closest.{rounded-nearest, closest-le}
use Rattle.scalar_theorems.proofs.Floats.{made, made_word, made_float, made-sign, made-units, made-even, from, upto, digits, digits-ge, digits_le, rounded-is}

-- a float's units, as `Closest` has floats
other : (v : ℕ) → is_float v ≡ true → units v ≡ (2 ^ 22 + fraction v) * 2 ^ exponent v
other v h = let k = eqb-true (v / 2 ^ 30 % 2) 1 h in units-float v (λ z. omega arith)

-- the limit, halfway between the greatest float and 2 ^ 128: half is 2 ^ 254 * den
limit_is : (den : ℕ) → (2 ^ 24 - 1) * 2 ^ 254 * den ≡ (2 ^ 24 - 1) * (2 ^ 254 * den)
limit_is den = mul_assoc (2 ^ 24 - 1) (2 ^ 254) den

module _ (num den : ℕ) (p : 0 < den) (l : 2 ^ 22 * den ≤ num) where
  e : ℕ
  e = size (num / den) - 23

  half : ℕ
  half = 2 ^ 254 * den

  -- den * 2 ^ 255 is two halves
  unit : den * 2 ^ 255 ≡ 2 * half
  unfolding half
  unit = mul_comm den (2 ^ 255) ∙ mul_assoc 2 (2 ^ 254) den

  -- ---- below the limit

  module _ (h : num < (2 ^ 24 - 1) * half) where
    small : e < 256
    unfolding e half
    small = lt_of_not-le (λ (g : 256 ≤ size (num / den) - 23). not-le_of_lt h (le_trans (greater num (2 ^ 254 * den)) (le_trans (le_of_eq (sym (mul_assoc (2 ^ 24) (2 ^ 254) den))) (le_trans (mul-le-mul_right den (pow_mono {i = 278} {j = 22 + (size (num / den) - 23)} (omega arith))) (from num den p l)))))
      where
        greater : (n x : ℕ) → (2 ^ 24 - 1) * x ≤ 2 ^ 24 * x
        greater n x = omega arith

    last : e ≡ 255 → digits num den p l ≤ 2 ^ 23 - 1
    unfolding e half
    last q = closest-le num (den * 2 ^ (size (num / den) - 23)) (2 ^ 23 - 1) (subst (λ (x : ℕ). num * 2 < (2 * (2 ^ 23 - 1) + 1) * (den * 2 ^ x)) (sym q) (subst (λ (x : ℕ). num * 2 < (2 * (2 ^ 23 - 1) + 1) * x) (sym unit) (doubled num (2 ^ 254 * den) h)))
      where
        doubled : (n x : ℕ) → n < (2 ^ 24 - 1) * x → n * 2 < (2 * (2 ^ 23 - 1) + 1) * (2 * x)
        doubled n x g = omega arith

    fits : e * 2 ^ 22 + (digits num den p l - 2 ^ 22) < 2 ^ 30
    fits =
        let a = small in
        let b = digits_le num den p l in
        let c = digits-ge num den p l in
        elim (dec_lt e 255) [
          | yes g ↦ omega arith
          | no g ↦ let k = last (omega (arith, not-lt-le g)) in omega (arith, not-lt-le g)
        ]

    module _ (s : ℕ) (q : s < 2) where
      -- the word, by its digits
      w : ℕ
      w = made s (digits num den p l) e

      gives : rounded s num den ≡ Ok w
      unfolding w e
      gives = rounded-is num den p l s ∙ float_fits s (digits num den p l) (size (num / den) - 23) (digits-ge num den p l) (digits_le num den p l) fits

      units-are : units w ≡ digits num den p l * 2 ^ e
      unfolding w
      units-are = made-units s (digits num den p l) e q (digits-ge num den p l) (digits_le num den p l) fits

      -- w beside another float v
      Beside : ℕ → ℕ → Type 0
      Beside x y = (gap num (x * den) ≤ gap num (y * den)) × (gap num (x * den) ≡ gap num (y * den) → (y ≡ x) ⊎ (digits num den p l % 2 ≡ 0))

      beside : (v : ℕ) → is_float v ≡ true → Beside (units w) (units v)
      unfolding Beside e
      beside v h =
          subst (λ (x : ℕ). Beside x (units v)) (sym units-are)
          (subst (λ (y : ℕ). Beside (digits num den p l * 2 ^ e) y) (sym (other v h)) (rounded-nearest num den p l (2 ^ 22 + fraction v) (exponent v) (omega arith) (omega arith)))

      is-nearest : Nearest s num den w
      unfolding Beside w
      is-nearest =
          let a = digits-ge num den p l in
          let b = digits_le num den p l in
          record {
            word = made_word s (digits num den p l) e q a b fits;
            float = made_float s (digits num den p l) e q a b fits;
            signed = made-sign s (digits num den p l) e q a b fits;
            nearest = λ v h. (beside v h).0;
            even = λ v h g. ⊎_elim (λ (x : units v ≡ units w). inl x) (λ (x : digits num den p l % 2 ≡ 0). inr (made-even s (digits num den p l) e q a b fits x)) ((beside v h).1 g);
          }

  -- ---- from the limit on

  module _ (h : (2 ^ 24 - 1) * half ≤ num) where
    large : 254 < e
    unfolding e half
    large = lt_of_not-le (λ (g : size (num / den) - 23 ≤ 254). not-le_of_lt (lt_of_lt_of_le (upto num den p l) (le_trans (mul-le-mul_right den (pow_mono {i = 23 + (size (num / den) - 23)} {j = 277} (omega arith))) (le_of_eq (mul_assoc (2 ^ 23) (2 ^ 254) den)))) (le_trans (lesser (2 ^ 254 * den)) h))
      where
        lesser : (x : ℕ) → 2 ^ 23 * x ≤ (2 ^ 24 - 1) * x
        lesser x = omega arith

    full : e ≡ 255 → 2 ^ 23 ≤ digits num den p l
    unfolding e half
    full q = closest_mono (2 ^ 24 - 1) 2 num (den * 2 ^ (size (num / den) - 23)) (lit< tt) (mul-pos p (pow_pos (size (num / den) - 23))) (subst (λ (x : ℕ). (2 ^ 24 - 1) * (den * 2 ^ x) ≤ num * 2) (sym q) (subst (λ (x : ℕ). (2 ^ 24 - 1) * x ≤ num * 2) (sym unit) (doubled (2 ^ 254 * den) h)))
      where
        doubled : (x : ℕ) → (2 ^ 24 - 1) * x ≤ num → (2 ^ 24 - 1) * (2 * x) ≤ num * 2
        doubled x g = omega arith

    passes : 2 ^ 30 ≤ e * 2 ^ 22 + (digits num den p l - 2 ^ 22)
    passes =
        let a = large in
        let c = digits-ge num den p l in
        elim (dec_lt 255 e) [
          | yes g ↦ omega arith
          | no g ↦ let k = full (omega (arith, not-lt-le g)) in omega (arith, not-lt-le g)
        ]

    traps : (s : ℕ) → rounded s num den ≡ overflow
    unfolding e
    traps s = rounded-is num den p l s ∙ float-over s (digits num den p l) (size (num / den) - 23) (digits-ge num den p l) (digits_le num den p l) passes

-- the limit does not underflow
above : (num den : ℕ) → (2 ^ 24 - 1) * (2 ^ 254 * den) ≤ num → 2 ^ 22 * den ≤ num
above num den h = le_trans (mul-le-mul_right den (least 22 (lit< tt))) (le_trans (le_of_eq (sym (mul_comm den (2 ^ 254)) ∙ mul_comm den (2 ^ 254))) (le_trans (first (2 ^ 254 * den)) h))
  where
    least : (k : ℕ) → k < 254 → 2 ^ k ≤ 2 ^ 254
    least k g = pow_mono {i = k} {j = 254} (omega arith)

    first : (x : ℕ) → x ≤ (2 ^ 24 - 1) * x
    first x = omega arith

pub rounds : Rounds
unfolding half w
rounds =
    record {
      zero = rounded-none;
      under = λ s num den a b. rounded-under s num den a b;
      over = λ s num den p h. let g : (2 ^ 24 - 1) * (2 ^ 254 * den) ≤ num = le_trans (le_of_eq (sym (limit_is den))) h in traps num den p (above num den g) g s;
      near = λ s num den q p l h. let g : num < (2 ^ 24 - 1) * (2 ^ 254 * den) = lt_of_lt_of_le h (le_of_eq (limit_is den)) in (w num den p l g s q, gives num den p l g s q, is-nearest num den p l g s q);
    }
