-- A number that lies strictly between 2 h and 2 h + 2 of some power of two rounds as 2 h + 1 of it does, if h has at least 24 binary digits (`rounded-sticky`).
-- So an operation need keep only its result's first digits, h, and one bit that says whether anything was left out. Assumes nothing.
use Rattle.std.proofs.Common.{◌≡◌, ℕ, suc, ◌+◌, ◌-◌, ◌*◌, ◌/◌, ◌%◌, ◌^◌, ◌<◌, ◌≤◌, Bool, true, false, not, T, ltb, sym, ap, ◌∙◌, subst, zero-le, le_trans, le_of_eq, lt_of_lt_of_le, lt_of_le_of_lt, le_of_lt, mul-le-mul_right, mod-lt, mul_assoc, mul_comm, lt_of_mul-lt-mul_right, mul-lt-mul_of_pos_right, mul-pos, lt_of_not-le, div-add-mod', mul_right_comm, not-le_of_lt, le_of_mul-le-mul_right, arith, lit<, ltb→lt, nltb→le, pow_pos, pow_mono, pow-add, Err}
use native.Mathlib.Nat.{pow-succ'}
use lib.Arith.{digits_div, digits_mod}
use lib.Ieee.{size}
use lib.Ieee.Digits.{size-lt, size_reaches}
use lib.Ieee.Nearest.{closest, closest_same}
use Rattle.trap.specs.Trap.{trap_of}
use Rattle.scalar.specs.Results.{rounded, float}
use Rattle.scalar.proofs.Rounding.{closest-cases, rounded-under, rounded-at, join}

-- ---- a fraction whose remainder is on one side of a half

closest-low : (q b r : ℕ) → r * 2 < b → closest (q * b + r) b ≡ q
closest-low q b r h =
    let m : (q * b + r) % b ≡ r = digits_mod q {m = b} {r = r} (omega arith) in
    closest-cases (λ (x : ℕ). x ≡ q) (q * b + r) b (λ k. digits_div q (omega arith)) (λ k. absurd (omega arith)) (λ k. absurd (omega arith))

closest-high : (q b r : ℕ) → r < b → b < r * 2 → closest (q * b + r) b ≡ suc q
closest-high q b r l h =
    let m : (q * b + r) % b ≡ r = digits_mod q {m = b} {r = r} l in
    closest-cases (λ (x : ℕ). x ≡ suc q) (q * b + r) b (λ k. absurd (omega arith)) (λ k. absurd (omega arith)) (λ k. ap suc (digits_div q l))

-- n / m lies strictly between 2 h and 2 h + 2: a multiple of 4 v parts of it is as near as to 2 h + 1
module _ (n m h v : ℕ) (p : 0 < v) (lo : 2 * h * m < n) (hi : n < (2 * h + 2) * m) where
  -- the quotient and the remainder of 2 h + 1, and the remainder of n
  q : ℕ
  q = (2 * h + 1) / (4 * v)

  r : ℕ
  r = (2 * h + 1) % (4 * v)

  whole : q * (4 * v) + r ≡ 2 * h + 1
  unfolding q r
  whole = div-add-mod' (2 * h + 1) (4 * v)

  r-lt : r < 4 * v
  unfolding r
  r-lt = mod-lt (2 * h + 1) (omega arith)

  whole-m : (q * (4 * v) + r) * m ≡ (2 * h + 1) * m
  whole-m = ap (λ (x : ℕ). x * m) whole

  r-pos : 0 < r
  r-pos = let w = whole in omega arith

  t : ℕ
  t = n - q * (m * (4 * v))

  t-is : q * (m * (4 * v)) + t ≡ n
  unfolding t
  t-is = let w = whole-m in let k = mul-le-mul_right m r-pos in omega arith

  below : r < 2 * v → closest n (m * (4 * v)) ≡ closest (2 * h + 1) (4 * v)
  below l =
      let w = whole-m in let k = mul-le-mul_right {m = r + 1} {n = 2 * v} m (omega arith) in let e = t-is in
      ap (λ (x : ℕ). closest x (m * (4 * v))) (sym e) ∙ closest-low q (m * (4 * v)) t (omega arith)
      ∙ sym (ap (λ (x : ℕ). closest x (4 * v)) (sym whole) ∙ closest-low q (4 * v) r (omega arith))

  above : 2 * v ≤ r → closest n (m * (4 * v)) ≡ closest (2 * h + 1) (4 * v)
  above l =
      let w = whole-m in
      let z = whole in
      let o : 2 * v + 1 ≤ r = omega arith in
      let k = mul-le-mul_right {m = 2 * v + 1} {n = r} m o in let u = mul-le-mul_right {m = r + 1} {n = 4 * v} m r-lt' in let e = t-is in
      ap (λ (x : ℕ). closest x (m * (4 * v))) (sym e) ∙ closest-high q (m * (4 * v)) t (omega arith) (omega arith)
      ∙ sym (ap (λ (x : ℕ). closest x (4 * v)) (sym whole) ∙ closest-high q (4 * v) r r-lt (omega arith))
    where
      r-lt' : r + 1 ≤ 4 * v
      r-lt' = let b = r-lt in omega arith

  pub closest-odd : closest n (m * (4 * v)) ≡ closest (2 * h + 1) (4 * v)
  closest-odd = go (ltb r (2 * v)) (ltb→lt r (2 * v)) (nltb→le r (2 * v))
    where
      go : (b : Bool) → (T b → r < 2 * v) → (T (not b) → 2 * v ≤ r) → closest n (m * (4 * v)) ≡ closest (2 * h + 1) (4 * v)
      go true x y = below (x tt)
      go false x y = above (y tt)

-- ---- a fraction from 2 ^ i up to 2 ^ (i + 1), in units over 2 ^ 150

module _ (s num den i : ℕ) (p : 0 < den) (lo : 2 ^ i * den ≤ num * 2 ^ 150) (hi : num * 2 ^ 150 < 2 ^ suc i * den) where
  pub decade-under : 0 < num → i < 172 → rounded s num den ≡ Err (trap_of 8 2)
  decade-under g h =
      rounded-under s num den g
      (lt_of_mul-lt-mul_right (2 ^ 150) {m = num} {n = 2 ^ 22 * den} (lt_of_lt_of_le hi (le_trans (mul-le-mul_right den (pow_mono {i = suc i} {j = 172} h)) (le_of_eq (mul_right_comm (2 ^ 22) (2 ^ 150) den)))))

  pub decade-at : (e : ℕ) → i ≡ 172 + e → rounded s num den ≡ float s (closest num (den * 2 ^ e)) e
  decade-at e k =
      rounded-at s num den e p
      (le_of_mul-le-mul_right {m = 2 ^ (22 + e) * den} {n = num} {k = 2 ^ 150} (le_trans (le_of_eq (mul_right_comm (2 ^ (22 + e)) den (2 ^ 150) ∙ ap (λ (x : ℕ). x * den) (join (22 + e) 150 i (omega arith)))) lo) (pow_pos 150))
      (lt_of_mul-lt-mul_right (2 ^ 150) {m = num} {n = 2 ^ (23 + e) * den} (lt_of_lt_of_le hi (le_of_eq (sym (mul_right_comm (2 ^ (23 + e)) den (2 ^ 150) ∙ ap (λ (x : ℕ). x * den) (join (23 + e) 150 (suc i) (omega arith)))))))

-- ---- the law

module _ (s num den h k : ℕ) (p : 0 < den) (g : 2 ^ 23 ≤ h) (lo : 2 * h * (2 ^ k * den) < num * 2 ^ 150) (hi : num * 2 ^ 150 < (2 * h + 2) * (2 ^ k * den)) where
  -- the place of the highest set bit of 2 h + 1
  top : (j : ℕ) × (2 ^ j ≤ 2 * h + 1) × (2 * h + 1 < 2 ^ suc j) × (24 ≤ j)
  top =
      let n : ℕ = size (2 * h + 1) in
      let b : 24 < n = lt_of_not-le (λ (c : n ≤ 24). not-le_of_lt (lt_of_lt_of_le (size-lt (2 * h + 1)) (pow_mono c)) (omega arith)) in
      let e : suc (n - 1) ≡ n = omega arith in
      (n - 1, size_reaches (2 * h + 1) (n - 1) (omega arith), subst (λ (x : ℕ). 2 * h + 1 < 2 ^ x) (sym e) (size-lt (2 * h + 1)), omega arith)

  j : ℕ
  j = top.0

  even : (x : ℕ) → 1 ≤ x → 2 ^ x ≡ 2 * 2 ^ (x - 1)
  even x l = ap (λ (y : ℕ). 2 ^ y) (let e : x ≡ suc (x - 1) = omega arith in e) ∙ pow-succ' 2 (x - 1)

  j-ge : 24 ≤ j
  unfolding j
  j-ge = top.3

  low : 2 ^ j ≤ 2 * h
  unfolding j
  low = omega (arith, even top.0 (omega (arith, top.3)), top.1)

  high : 2 * h + 2 ≤ 2 ^ suc j
  unfolding j
  high = omega (arith, pow-succ' 2 top.0, top.2)

  num-lo : 2 ^ (j + k) * den ≤ num * 2 ^ 150
  num-lo =
      le_trans (le_of_eq (ap (λ (x : ℕ). x * den) (pow-add 2 j k) ∙ mul_assoc (2 ^ j) (2 ^ k) den)) (le_trans (mul-le-mul_right (2 ^ k * den) low) (le_of_lt lo))

  num-hi : num * 2 ^ 150 < 2 ^ suc (j + k) * den
  num-hi =
      lt_of_lt_of_le hi
      (le_trans (mul-le-mul_right (2 ^ k * den) high) (le_of_eq (sym (ap (λ (x : ℕ). x * den) (ap (λ (x : ℕ). 2 ^ x) (let e : suc (j + k) ≡ suc j + k = omega arith in e) ∙ pow-add 2 (suc j) k) ∙ mul_assoc (2 ^ suc j) (2 ^ k) den))))

  kept-lo : 2 ^ (j + k) * 2 ^ 150 ≤ (2 * h + 1) * 2 ^ k * 2 ^ 150
  unfolding j
  kept-lo = mul-le-mul_right (2 ^ 150) (le_trans (le_of_eq (pow-add 2 top.0 k)) (mul-le-mul_right (2 ^ k) top.1))

  kept-hi : (2 * h + 1) * 2 ^ k * 2 ^ 150 < 2 ^ suc (j + k) * 2 ^ 150
  unfolding j
  kept-hi =
      mul-lt-mul_of_pos_right {m = (2 * h + 1) * 2 ^ k} {n = 2 ^ suc (top.0 + k)} {k = 2 ^ 150}
      (lt_of_lt_of_le (mul-lt-mul_of_pos_right {m = 2 * h + 1} {n = 2 ^ suc top.0} {k = 2 ^ k} top.2 (pow_pos k)) (le_of_eq (join (suc top.0) k (suc (top.0 + k)) (omega arith)))) (pow_pos 150)

  num_pos : 0 < num
  num_pos = lt_of_mul-lt-mul_right (2 ^ 150) {m = 0} {n = num} (lt_of_le_of_lt zero-le lo)

  same_digits : (e : ℕ) → j + k ≡ 172 + e → closest num (den * 2 ^ e) ≡ closest ((2 * h + 1) * 2 ^ k) (2 ^ 150 * 2 ^ e)
  same_digits e w =
      let v : ℕ = 2 ^ (j - 24) in
      let d : 4 * v ≡ 2 ^ (j - 22) = join 2 (j - 24) (j - 22) (omega (arith, j-ge)) in
      let u : 2 ^ k * (4 * v) ≡ 2 ^ 150 * 2 ^ e = ap (λ (x : ℕ). 2 ^ k * x) d ∙ join k (j - 22) (150 + e) (omega (arith, j-ge)) ∙ pow-add 2 150 e in
      closest_same num (den * 2 ^ e) (num * 2 ^ 150) (2 ^ k * den * (4 * v)) (mul-pos p (pow_pos e)) (mul-pos (mul-pos (pow_pos k) p) (mul-pos (lit< tt) (pow_pos (j - 24)))) (first v u)
      ∙ closest-odd (num * 2 ^ 150) (2 ^ k * den) h v (pow_pos (j - 24)) lo hi
      ∙ closest_same (2 * h + 1) (4 * v) ((2 * h + 1) * 2 ^ k) (2 ^ 150 * 2 ^ e) (mul-pos (lit< tt) (pow_pos (j - 24))) (mul-pos (pow_pos 150) (pow_pos e)) (ap (λ (x : ℕ). (2 * h + 1) * x) (sym u) ∙ sym (mul_assoc (2 * h + 1) (2 ^ k) (4 * v)))
    where
      first : (v : ℕ) → 2 ^ k * (4 * v) ≡ 2 ^ 150 * 2 ^ e → num * (2 ^ k * den * (4 * v)) ≡ num * 2 ^ 150 * (den * 2 ^ e)
      first v u =
          ap (λ (x : ℕ). num * x) (mul_right_comm (2 ^ k) den (4 * v) ∙ ap (λ (x : ℕ). x * den) u ∙ mul_assoc (2 ^ 150) (2 ^ e) den ∙ ap (λ (x : ℕ). 2 ^ 150 * x) (mul_comm (2 ^ e) den))
          ∙ sym (mul_assoc num (2 ^ 150) (den * 2 ^ e))

  pub rounded-sticky : rounded s num den ≡ rounded s ((2 * h + 1) * 2 ^ k) (2 ^ 150)
  rounded-sticky = go (ltb (j + k) 172) (ltb→lt (j + k) 172) (nltb→le (j + k) 172)
    where
      go : (b : Bool) → (T b → j + k < 172) → (T (not b) → 172 ≤ j + k) → rounded s num den ≡ rounded s ((2 * h + 1) * 2 ^ k) (2 ^ 150)
      go true x y =
          decade-under s num den (j + k) p num-lo num-hi num_pos (x tt)
          ∙ sym (decade-under s ((2 * h + 1) * 2 ^ k) (2 ^ 150) (j + k) (pow_pos 150) kept-lo kept-hi (mul-pos (omega arith) (pow_pos k)) (x tt))
      go false x y =
          let e : ℕ = j + k - 172 in
          let w : j + k ≡ 172 + e = omega (arith, y tt) in
          decade-at s num den (j + k) p num-lo num-hi e w ∙ ap (λ (m : ℕ). float s m e) (same_digits e w)
          ∙ sym (decade-at s ((2 * h + 1) * 2 ^ k) (2 ^ 150) (j + k) (pow_pos 150) kept-lo kept-hi e w)
