-- The greatest multiple of o not above a number, and the least not below, on a line with zero at q * o.
use Prim.Native.Nat.{ℕ, suc, ◌+◌, ◌-◌, ◌*◌, ◌/◌, ◌%◌, ◌≤◌, ◌<◌}
use mathlib.Core.Path.{◌≡◌, sym, ap, ◌∙◌, subst}
use native.Mathlib.Nat.{div-add-mod', mod-lt, mul-mod_left, lt_of_mul-lt-mul_right, mul-le-mul_right, add-mul}
use native.Mathlib.Omega.{arith}

-- y is the greatest multiple not above x
pub record Below (o x y : ℕ) : Type 0 where
  pub multiple : y % o ≡ 0
  pub under : y ≤ x
  pub most : (p : ℕ) → p % o ≡ 0 → p ≤ x → p ≤ y

-- y is the least multiple not below x
pub record Above (o x y : ℕ) : Type 0 where
  pub multiple : y % o ≡ 0
  pub over : x ≤ y
  pub fewest : (p : ℕ) → p % o ≡ 0 → x ≤ p → y ≤ p

pub below_at : {o x y u v : ℕ} → u ≡ x → v ≡ y → Below o x y → Below o u v
below_at {o} {x} {y} {u} {v} e f b = subst (λ (z : ℕ). Below o z v) (sym e) (subst (λ (z : ℕ). Below o x z) (sym f) b)

pub above_at : {o x y u v : ℕ} → u ≡ x → v ≡ y → Above o x y → Above o u v
above_at {o} {x} {y} {u} {v} e f b = subst (λ (z : ℕ). Above o z v) (sym e) (subst (λ (z : ℕ). Above o x z) (sym f) b)

module _ (o : ℕ) (c : 0 < o) where
  -- a multiple, by how often
  times : (p : ℕ) → p % o ≡ 0 → p / o * o ≡ p
  times p h = omega (arith, div-add-mod' p o)

  -- less than the next multiple
  pub steps : (i j : ℕ) → i * o < j * o + o → i * o ≤ j * o
  steps i j h = mul-le-mul_right o (less i j (lt_of_mul-lt-mul_right o {m = i} {n = suc j} (omega arith)))
    where
      less : (i j : ℕ) → i < suc j → i ≤ j
      less i j l = omega arith

  pub sum-multiple : (q k : ℕ) → (q * o + k * o) % o ≡ 0
  sum-multiple q k = ap (λ (x : ℕ). x % o) (sym (add-mul q k o)) ∙ mul-mod_left (q + k) o

  pub difference-multiple : (q k : ℕ) → k ≤ q → (q * o - k * o) % o ≡ 0
  difference-multiple q k l = ap (λ (x : ℕ). x % o) (parts (q - k) k q (omega arith)) ∙ mul-mod_left (q - k) o
    where
      parts : (r k q : ℕ) → r + k ≡ q → q * o - k * o ≡ r * o
      parts r k q e = let z : (r + k) * o ≡ q * o = ap (λ (x : ℕ). x * o) e in omega arith

  -- k times o is n rounded down
  module _ (q n k : ℕ) (lo : k * o ≤ n) (hi : n < k * o + o) where
    pub below-plus : Below o (q * o + n) (q * o + k * o)
    below-plus = record { multiple = sum-multiple q k; under = omega arith; most = λ p h l. let e = times p h in let z = steps (p / o) (q + k) (omega arith) in omega arith }

    pub above-minus : k ≤ q → Above o (q * o - n) (q * o - k * o)
    above-minus b = record { multiple = difference-multiple q k b; over = omega arith; fewest = λ p h l. let e = times p h in let z = steps q (p / o + k) (omega arith) in omega arith }

  -- k times o is n rounded up
  module _ (q n k : ℕ) (lo : n ≤ k * o) (hi : k * o < n + o) where
    pub above-plus : Above o (q * o + n) (q * o + k * o)
    above-plus = record { multiple = sum-multiple q k; over = omega arith; fewest = λ p h l. let e = times p h in let z = steps (q + k) (p / o) (omega arith) in omega arith }

    pub below-minus : k ≤ q → n ≤ q * o → Below o (q * o - n) (q * o - k * o)
    below-minus b f = record { multiple = difference-multiple q k b; under = omega arith; most = λ p h l. let e = times p h in let z = steps (p / o + k) q (omega arith) in omega arith }

  -- rounded down and up
  pub down-lo : (n : ℕ) → n / o * o ≤ n
  down-lo n = omega (arith, div-add-mod' n o)

  pub down-hi : (n : ℕ) → n < n / o * o + o
  down-hi n = omega (arith, div-add-mod' n o, mod-lt n c)

  pub up-lo : (n : ℕ) → n ≤ (n + (o - 1)) / o * o
  up-lo n = omega (arith, div-add-mod' (n + (o - 1)) o, mod-lt (n + (o - 1)) c)

  pub up-hi : (n : ℕ) → (n + (o - 1)) / o * o < n + o
  up-hi n = omega (arith, div-add-mod' (n + (o - 1)) o)

  -- a multiple is its own neighbour
  pub itself-below : (x : ℕ) → x % o ≡ 0 → Below o x x
  itself-below x h = record { multiple = h; under = omega arith; most = λ p g l. l }

  pub itself-above : (x : ℕ) → x % o ≡ 0 → Above o x x
  itself-above x h = record { multiple = h; over = omega arith; fewest = λ p g l. l }
