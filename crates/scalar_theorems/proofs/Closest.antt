-- The multiple of 2 ^ e that `closest` names is the nearest float: no k * 2 ^ f lies nearer, and where one lies as near it is even.
use mathlib.Core.Path.{◌≡◌, refl, sym, ap, ◌∙◌, subst}
use mathlib.Core.Logic.{◌⊎◌, inl, inr, ⊎_elim}
use Prim.Native.Nat.{ℕ, zero, suc, ◌+◌, ◌-◌, ◌*◌, ◌/◌, ◌%◌, ◌^◌, ◌≤◌, ◌<◌}
use native.Mathlib.Nat.{le_trans, le_of_eq, lt_of_lt_of_le, mul_assoc, mul_comm, mul-le-mul_left, mul-le-mul_right, mul-lt-mul_of_pos_right, mul-pos, le-div_iff_mul-le, lt_of_not-le, not-le_of_lt, mod-lt, div-add-mod', eq_of_mul-eq-mul_right}
use native.Mathlib.Decide.{dec_lt}
use native.Mathlib.Omega.{arith}
use lib.Pow.{pow_pos, pow_mono, pow-add}
use lib.Ieee.{size}
use lib.Ieee.Digits.{size-lt, size_reaches}
use lib.Ieee.Nearest.{closest}
use Rattle.scalar.proofs.Rounding.{closest-cases, not-lt-le, join}
use Rattle.scalar_theorems.specs.Line.{gap}

-- no multiple of b lies nearer to a than m * b, and where one lies as near m is even
abbrev Best : ℕ → ℕ → ℕ → Type 0
Best a b m = (j : ℕ) → (gap a (m * b) ≤ gap a (j * b)) × (gap a (m * b) ≡ gap a (j * b) → (j ≡ m) ⊎ (m % 2 ≡ 0))

closest-best : (a b : ℕ) → 0 < b → Best a b (closest a b)
closest-best a b p = closest-cases (λ (m : ℕ). Best a b m) a b low tie high
  where
    q : ℕ
    q = a / b

    r : ℕ
    r = a % b

    whole : q * b + r ≡ a
    whole = div-add-mod' a b

    r-lt : r < b
    r-lt = mod-lt a p

    low : r * 2 < b → Best a b q
    low h j = let w = whole in elim (dec_lt q j) [
      | yes l ↦ let k = mul-le-mul_right {m = suc q} {n = j} b l in (omega arith, λ e. absurd (omega arith))
      | no l ↦ let k = mul-le-mul_right {m = j} {n = q} b (not-lt-le l) in (omega arith, λ e. inl (eq_of_mul-eq-mul_right b p j q (omega arith)))
    ]

    tie : r * 2 ≡ b → Best a b (q + q % 2)
    tie h j = let w = whole in (
      elim (dec_lt q j) [
        | yes l ↦ let k = mul-le-mul_right {m = suc q} {n = j} b l in near (omega arith)
        | no l ↦ let k = mul-le-mul_right {m = j} {n = q} b (not-lt-le l) in near (omega arith)
      ],
      λ e. inr (omega arith),
    )
      where
        near : r ≤ gap a (j * b) → gap a ((q + q % 2) * b) ≤ gap a (j * b)
        near l = go (q % 2) (omega arith)
          where
            go : (t : ℕ) → t < 2 → gap a ((q + t) * b) ≤ gap a (j * b)
            go zero i = let w = whole in omega arith
            go (suc zero) i = let w = whole in omega arith
            go (suc (suc t)) i = absurd (omega arith)

    high : b < r * 2 → Best a b (suc q)
    high h j = let w = whole in let g = r-lt in elim (dec_lt q j) [
      | yes l ↦ let k = mul-le-mul_right {m = suc q} {n = j} b l in (omega arith, λ e. inl (eq_of_mul-eq-mul_right b p j (suc q) (omega arith)))
      | no l ↦ let k = mul-le-mul_right {m = j} {n = q} b (not-lt-le l) in (omega arith, λ e. absurd (omega arith))
    ]

-- below the middle of k and k + 1
pub closest-le : (a b k : ℕ) → a * 2 < (2 * k + 1) * b → closest a b ≤ k
closest-le a b k h = closest-cases (λ (m : ℕ). m ≤ k) a b
    (λ l. below)
    (λ l. elim (dec_lt (a / b) k) [
      | yes g ↦ omega arith
      | no g ↦ absurd (half (not-lt-le g) (omega arith))
    ])
    (λ l. elim (dec_lt (a / b) k) [
      | yes g ↦ g
      | no g ↦ absurd (half (not-lt-le g) (omega arith))
    ])
  where
    below : a / b ≤ k
    below = elim (dec_lt k (a / b)) [
      | yes g ↦ let w = div-add-mod' a b in let n = mul-le-mul_right {m = suc k} {n = a / b} b g in absurd (omega arith)
      | no g ↦ not-lt-le g
    ]

    half : k ≤ a / b → b ≤ a % b * 2 → ⊥
    half g l = let w = div-add-mod' a b in let n = mul-le-mul_right {m = k} {n = a / b} b g in omega arith

-- ---- floats: m * 2 ^ e units with m from 2 ^ 22 up to and without 2 ^ 23

-- m * 2 ^ e units are the nearest float to num / den units
abbrev pub Nearest : ℕ → ℕ → ℕ → ℕ → Type 0
Nearest num den m e =
    (k f : ℕ) → 2 ^ 22 ≤ k → k < 2 ^ 23
    → (gap num (m * 2 ^ e * den) ≤ gap num (k * 2 ^ f * den)) × (gap num (m * 2 ^ e * den) ≡ gap num (k * 2 ^ f * den) → (k * 2 ^ f ≡ m * 2 ^ e) ⊎ (m % 2 ≡ 0))

-- what `rounded-at` rounds to
pub nearest-at : (num den e : ℕ) → 0 < den → 2 ^ (22 + e) * den ≤ num → Nearest num den (closest num (den * 2 ^ e)) e
nearest-at num den e p lo k f kl kh = elim (dec_lt f e) [
  | yes l ↦ coarse l
  | no l ↦ fine (not-lt-le l)
]
  where
    u : ℕ
    u = den * 2 ^ e

    m : ℕ
    m = closest num (den * 2 ^ e)

    best : Best num u m
    best = closest-best num (den * 2 ^ e) (mul-pos p (pow_pos e))

    at : (x : ℕ) → x * u ≡ x * 2 ^ e * den
    at x = ap (λ (y : ℕ). x * y) (mul_comm den (2 ^ e)) ∙ sym (mul_assoc x (2 ^ e) den)

    Goal : ℕ → ℕ → Type 0
    Goal x y = (gap num x ≤ gap num y) × (gap num x ≡ gap num y → (k * 2 ^ f ≡ m * 2 ^ e) ⊎ (m % 2 ≡ 0))

    -- the other's exponent is at least e: it is a multiple of the unit
    fine : e ≤ f → Goal (m * 2 ^ e * den) (k * 2 ^ f * den)
    fine l =
        let j : ℕ = k * 2 ^ (f - e) in
        let w : j * 2 ^ e ≡ k * 2 ^ f = mul_assoc k (2 ^ (f - e)) (2 ^ e) ∙ ap (λ (y : ℕ). k * y) (join (f - e) e f (omega arith)) in
        subst (λ (y : ℕ). Goal (m * 2 ^ e * den) y) (at j ∙ ap (λ (y : ℕ). y * den) w)
        (subst (λ (x : ℕ). Goal x (j * u)) (at m)
        ((best j).0, λ h. ⊎_elim (λ (i : j ≡ m). inl (sym w ∙ ap (λ (y : ℕ). y * 2 ^ e) i)) (λ (i : m % 2 ≡ 0). inr i) ((best j).1 h)))

    -- its exponent is less: it lies below 2 ^ 22 units of this one, which lie nearer
    coarse : f < e → Goal (m * 2 ^ e * den) (k * 2 ^ f * den)
    coarse l =
        let a : k * 2 ^ f * den < 2 ^ 22 * 2 ^ e * den = mul-lt-mul_of_pos_right (lt_of_lt_of_le (mul-lt-mul_of_pos_right kh (pow_pos f)) (le_trans (le_of_eq (join 23 f (22 + (1 + f)) (omega arith) ∙ pow-add 2 22 (1 + f))) (mul-le-mul_left (2 ^ 22) (pow_mono {i = 1 + f} {j = e} (omega arith))))) p in
        let b : 2 ^ 22 * 2 ^ e * den ≤ num = le_trans (le_of_eq (ap (λ (y : ℕ). y * den) (join 22 e (22 + e) refl))) lo in
        let c = (best (2 ^ 22)).0 in
        let d = at (2 ^ 22) in
        subst (λ (x : ℕ). Goal x (k * 2 ^ f * den)) (at m) (omega arith, λ h. absurd (omega arith))

-- the float that `rounded` names, of a fraction that does not underflow
pub rounded-nearest : (num den : ℕ) → 0 < den → 2 ^ 22 * den ≤ num → Nearest num den (closest num (den * 2 ^ (size (num / den) - 23))) (size (num / den) - 23)
rounded-nearest num den p h =
    let n : ℕ = num / den in
    let l : 2 ^ 22 ≤ n = (le-div_iff_mul-le p).1 h in
    let g : 22 < size n = lt_of_not-le (λ (c : size n ≤ 22). not-le_of_lt (lt_of_lt_of_le (size-lt n) (pow_mono c)) l) in
    nearest-at num den (size n - 23) p ((le-div_iff_mul-le p).0 (size_reaches n (22 + (size n - 23)) (omega arith)))
