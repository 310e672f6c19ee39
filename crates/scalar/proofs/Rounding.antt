-- Laws of the definitions of `specs/Scalar.antt`. Assumes nothing.
--     closest-cases      what holds of `closest` by how the remainder compares with a half
--     rounded-none, rounded-under, rounded-at      `rounded` at zero, below 2 ^ 22 units, and with its exponent known
use Rattle.std.proofs.Common.{◌≡◌, ℕ, suc, ◌+◌, ◌-◌, ◌*◌, ◌/◌, ◌%◌, ◌^◌, ◌<◌, ◌≤◌, Bool, cond, not, T, eqb, ltb, sym, refl, ap, ◌∙◌, subst, ap₂, ⊎_elim, le_trans, le_of_eq, lt_of_lt_of_le, le_of_suc-le-suc, lt_of_le_of_lt, lt_irrefl, mul-le-mul_right, mod-eq_of_lt, mul_assoc, div-lt_iff_lt-mul, eq-zero-or-pos, mul-le-mul, le_antisymm, lt_of_mul-lt-mul_right, eq-or-lt_of_le, mul-le-mul_left, mul-lt-mul_of_pos_right, mul-pos, lt_of_not-le, le-div_iff_mul-le, zero-mul, mul_right_comm, not-le_of_lt, le_of_mul-le-mul_right, arith, lit<, eqb→eq, leb→le, pow_pos, pow_mono, pow-add, le-ltb, lt-ltb, eq-eqb, ne_eqb, Ok, Err}
use Prim.Native.Nat.{compare, Ordering}
use native.Mathlib.Nat.{eq_of_mul-eq-mul_right}
use native.Mathlib.Decide.{dec_lt}
use lib.Dec.{is_le, compare_is_eq, nleb→lt, eqb_refl}
use lib.Count.{count_leading_zeros, leading_top}
use lib.Arith.{lt_of_le-ne}
use lib.Ieee.{nearest, size}
use lib.Ieee.Digits.{size-lt, size-le}
use lib.Ieee.Nearest.{closest, closest_same, div_same}
use Rattle.descriptor.specs.Fields.{integer_word}
use Rattle.trap.specs.Trap.{trap_of}
use Rattle.scalar.specs.Results.{rounded, float, integer, integer_overflow}

-- ---- `closest`

pub closest-cases : (P : ℕ → Type 0) (a b : ℕ) → (a % b * 2 < b → P (a / b)) → (a % b * 2 ≡ b → P (a / b + a / b % 2)) → (b < a % b * 2 → P (suc (a / b))) → P (closest a b)
closest-cases P a b l e g = go (compare (a % b * 2) b) (leb→le (a % b * 2) b) (nleb→lt (a % b * 2) b) (eqb→eq (a % b * 2) b) (λ (q : a % b * 2 ≡ b). subst (λ (x : ℕ). T (eqb (a % b * 2) x)) q (eqb_refl (a % b * 2)))
  where
    go : (o : Ordering) → (T (is_le o) → a % b * 2 ≤ b) → (T (not (is_le o)) → b < a % b * 2) → (T (compare_is_eq o) → a % b * 2 ≡ b) → (a % b * 2 ≡ b → T (compare_is_eq o)) → P (nearest (a / b) o)
    go Ordering.lt h k q n = l (lt_of_le-ne (h tt) n)
    go Ordering.eq h k q n = e (q tt)
    go Ordering.gt h k q n = g (k tt)

-- a number is `closest` if it is that in each of the three cases
pub closest-is : (a b x : ℕ) → (a % b * 2 < b → x ≡ a / b) → (a % b * 2 ≡ b → x ≡ a / b + a / b % 2) → (b < a % b * 2 → x ≡ suc (a / b)) → x ≡ closest a b
closest-is a b x l e g = closest-cases (λ (m : ℕ). x ≡ m) a b l e g

-- ---- `rounded`

pub rounded-none : (s den : ℕ) → rounded s 0 den ≡ Ok 0
unfolding rounded
rounded-none s den = refl

pub rounded-under : (s num den : ℕ) → 0 < num → num < 2 ^ 22 * den → rounded s num den ≡ Err (trap_of 8 2)
unfolding rounded
rounded-under s num den p h = simp (ne_eqb num 0 (omega arith), lt-ltb num (2 ^ 22 * den) h)

-- the number of digits of the whole part
size-at : (num den i : ℕ) → 0 < den → 2 ^ i * den ≤ num → num < 2 ^ suc i * den → size (num / den) ≡ suc i
size-at num den i p lo hi =
    le_antisymm (size-le (num / den) (suc i) ((div-lt_iff_lt-mul p).1 hi))
    (lt_of_not-le (λ (g : size (num / den) ≤ i). not-le_of_lt (lt_of_lt_of_le (size-lt (num / den)) (pow_mono g)) ((le-div_iff_mul-le p).1 lo)))

pub rounded-at : (s num den e : ℕ) → 0 < den → 2 ^ (22 + e) * den ≤ num → num < 2 ^ (23 + e) * den → rounded s num den ≡ float s (closest num (den * 2 ^ e)) e
unfolding rounded
rounded-at s num den e p lo hi =
    let one : 2 ^ 22 * den ≤ num = le_trans (mul-le-mul_right den (pow_mono {i = 22} {j = 22 + e} (omega arith))) lo in
    let z : size (num / den) - 23 ≡ e = omega (arith, size-at num den (22 + e) p lo (subst (λ (x : ℕ). num < 2 ^ x * den) (omega arith) hi)) in
    simp (ne_eqb num 0 (omega arith), le-ltb num (2 ^ 22 * den) one, z)

-- ---- `float`: whether it passes 2 ^ 278 units is seen in the bits below bit 30

module _ (s m e : ℕ) (lo : 2 ^ 22 ≤ m) (hi : m ≤ 2 ^ 23) where
  pub float_fits : e * 2 ^ 22 + (m - 2 ^ 22) < 2 ^ 30 → float s m e ≡ Ok (s * 2 ^ 31 + 2 ^ 30 + (e * 2 ^ 22 + (m - 2 ^ 22)))
  unfolding float
  float_fits b =
      simp (lt-ltb (m * 2 ^ e) (2 ^ 278) (⊎_elim (λ (q : m ≡ 2 ^ 23). even q) (λ (q : m < 2 ^ 23). odd q) (eq-or-lt_of_le hi)))
      (ap (λ (w : ℕ). Ok w) (omega arith))
    where
      even : m ≡ 2 ^ 23 → m * 2 ^ e < 2 ^ 278
      even q = lt_of_le_of_lt (mul-le-mul {n₁ = m} {m₁ = 2 ^ e} {n₂ = 2 ^ 23} {m₂ = 2 ^ 254} hi (pow_mono {i = e} {j = 254} (omega arith))) (lit< tt)

      odd : m < 2 ^ 23 → m * 2 ^ e < 2 ^ 278
      odd q = lt_of_lt_of_le (mul-lt-mul_of_pos_right {m = m} {n = 2 ^ 23} {k = 2 ^ e} q (pow_pos e)) (mul-le-mul_left {m = 2 ^ e} {n = 2 ^ 255} (2 ^ 23) (pow_mono {i = e} {j = 255} (omega arith)))

  pub float-over : 2 ^ 30 ≤ e * 2 ^ 22 + (m - 2 ^ 22) → float s m e ≡ Err (trap_of 8 3)
  unfolding float
  float-over b = simp (le-ltb (m * 2 ^ e) (2 ^ 278) (⊎_elim (λ (q : m ≡ 2 ^ 23). even q) (λ (q : m < 2 ^ 23). odd q) (eq-or-lt_of_le hi)))
    where
      even : m ≡ 2 ^ 23 → 2 ^ 278 ≤ m * 2 ^ e
      even q = mul-le-mul {n₁ = 2 ^ 23} {m₁ = 2 ^ 255} {n₂ = m} {m₂ = 2 ^ e} (le_of_eq (sym q)) (pow_mono {i = 255} {j = e} (omega arith))

      odd : m < 2 ^ 23 → 2 ^ 278 ≤ m * 2 ^ e
      odd q = mul-le-mul {n₁ = 2 ^ 22} {m₁ = 2 ^ 256} {n₂ = m} {m₂ = 2 ^ e} lo (pow_mono {i = 256} {j = e} (omega arith))

-- ---- powers of two

pub join : (i j k : ℕ) → i + j ≡ k → 2 ^ i * 2 ^ j ≡ 2 ^ k
join i j k e = sym (pow-add 2 i j) ∙ ap (λ (x : ℕ). 2 ^ x) e

-- q from 2 ^ j up, or below it, times 2 ^ i
pub up_le : (q j i k : ℕ) → 2 ^ j ≤ q → j + i ≡ k → 2 ^ k ≤ q * 2 ^ i
up_le q j i k h e = subst (λ (x : ℕ). x ≤ q * 2 ^ i) (join j i k e) (mul-le-mul_right (2 ^ i) h)

pub up_lt : (q j i k : ℕ) → q < 2 ^ j → j + i ≡ k → q * 2 ^ i < 2 ^ k
up_lt q j i k h e = subst (λ (x : ℕ). q * 2 ^ i < x) (join j i k e) (mul-lt-mul_of_pos_right {m = q} {n = 2 ^ j} {k = 2 ^ i} h (pow_pos i))

-- ---- q * 2 ^ e / 2 ^ 150 units, for a q that is not 0: its top bit brought to bit 63

abbrev zeros : ℕ → ℕ
zeros q = count_leading_zeros 64 q

module _ (s q e : ℕ) (p : 0 < q) (f : q < 2 ^ 64) where
  pub zeros-lt : zeros q < 64
  zeros-lt = let t = leading_top 64 q p f in omega (arith, t.1)

  pub normal-ge : 2 ^ 63 ≤ q * 2 ^ zeros q
  normal-ge = let t = leading_top 64 q p f in up_le q t.0 (zeros q) 63 t.2 (omega (arith, t.1))

  pub normal-lt : q * 2 ^ zeros q < 2 ^ 64
  normal-lt = let t = leading_top 64 q p f in up_lt q (suc t.0) (zeros q) 64 t.3 (omega (arith, t.1))

  pub normal-kept : (q * 2 ^ zeros q) % 2 ^ 64 ≡ q * 2 ^ zeros q
  normal-kept = mod-eq_of_lt normal-lt

  -- the rounded digits
  abbrev pub digits : ℕ
  digits = closest ((q * 2 ^ zeros q) % 2 ^ 64) (2 ^ 41)

  pub digits-ge : 2 ^ 22 ≤ digits
  digits-ge = let k = normal-kept in let g = normal-ge in closest-cases (λ (m : ℕ). 2 ^ 22 ≤ m) ((q * 2 ^ zeros q) % 2 ^ 64) (2 ^ 41) (λ h. omega arith) (λ h. omega arith) (λ h. omega arith)

  pub digits_le : digits ≤ 2 ^ 23
  digits_le = let k = normal-kept in let g = normal-lt in closest-cases (λ (m : ℕ). m ≤ 2 ^ 23) ((q * 2 ^ zeros q) % 2 ^ 64) (2 ^ 41) (λ h. omega arith) (λ h. omega arith) (λ h. omega arith)

  pub shifted-under : e < zeros q + 109 → rounded s (q * 2 ^ e) (2 ^ 150) ≡ Err (trap_of 8 2)
  shifted-under h =
      let t = leading_top 64 q p f in
      rounded-under s (q * 2 ^ e) (2 ^ 150) (mul-pos p (pow_pos e))
      (lt_of_lt_of_le (up_lt q (suc t.0) e (suc t.0 + e) t.3 refl) (pow_mono {i = suc t.0 + e} {j = 172} (omega (arith, t.1))))

  pub shifted_at : zeros q + 109 ≤ e → rounded s (q * 2 ^ e) (2 ^ 150) ≡ float s digits (e - (zeros q + 109))
  shifted_at h =
      let t = leading_top 64 q p f in
      let x : ℕ = e - (zeros q + 109) in
      rounded-at s (q * 2 ^ e) (2 ^ 150) x (pow_pos 150)
      (subst (λ (y : ℕ). y ≤ q * 2 ^ e) (sym (join (22 + x) 150 (t.0 + e) (omega (arith, t.1)))) (up_le q t.0 e (t.0 + e) t.2 refl))
      (subst (λ (y : ℕ). q * 2 ^ e < y) (sym (join (23 + x) 150 (suc t.0 + e) (omega (arith, t.1)))) (up_lt q (suc t.0) e (suc t.0 + e) t.3 refl))
      ∙ ap (λ (m : ℕ). float s m x)
      (closest_same (q * 2 ^ e) (2 ^ 150 * 2 ^ x) (q * 2 ^ zeros q) (2 ^ 41) (mul-pos (pow_pos 150) (pow_pos x)) (pow_pos 41) (same x (omega arith))
      ∙ ap (λ (n : ℕ). closest n (2 ^ 41)) (sym normal-kept))
    where
      same : (x : ℕ) → e + 41 ≡ zeros q + (150 + x) → q * 2 ^ e * 2 ^ 41 ≡ q * 2 ^ zeros q * (2 ^ 150 * 2 ^ x)
      same x k =
          mul_assoc q (2 ^ e) (2 ^ 41) ∙ ap (λ (y : ℕ). q * y) (join e 41 (zeros q + (150 + x)) k ∙ pow-add 2 (zeros q) (150 + x) ∙ ap (λ (y : ℕ). 2 ^ zeros q * y) (pow-add 2 150 x))
          ∙ sym (mul_assoc q (2 ^ zeros q) (2 ^ 150 * 2 ^ x))

  -- what `round_at` returns for the digits m
  pub returned : (m : ℕ) → m ≡ digits → zeros q + 109 ≤ e → (e - (zeros q + 109)) * 2 ^ 22 + (m - 2 ^ 22) < 2 ^ 30 → Ok (s * 2 ^ 31 + 2 ^ 30 + ((e - (zeros q + 109)) * 2 ^ 22 + (m - 2 ^ 22))) ≡ rounded s (q * 2 ^ e) (2 ^ 150)
  returned m k h b =
      sym (shifted_at h ∙ ap (λ (y : ℕ). float s y (e - (zeros q + 109))) (sym k) ∙ float_fits s m (e - (zeros q + 109)) (subst (λ (y : ℕ). 2 ^ 22 ≤ y) (sym k) digits-ge) (subst (λ (y : ℕ). y ≤ 2 ^ 23) (sym k) digits_le) b)

  pub returned-over : (m : ℕ) → m ≡ digits → zeros q + 109 ≤ e → 2 ^ 30 ≤ (e - (zeros q + 109)) * 2 ^ 22 + (m - 2 ^ 22) → Err (trap_of 8 3) ≡ rounded s (q * 2 ^ e) (2 ^ 150)
  returned-over m k h b =
      sym (shifted_at h ∙ ap (λ (y : ℕ). float s y (e - (zeros q + 109))) (sym k) ∙ float-over s m (e - (zeros q + 109)) (subst (λ (y : ℕ). 2 ^ 22 ≤ y) (sym k) digits-ge) (subst (λ (y : ℕ). y ≤ 2 ^ 23) (sym k) digits_le) b)

pub returned-none : (s q e den : ℕ) → q ≡ 0 → Ok 0 ≡ rounded s (q * 2 ^ e) den
returned-none s q e den h = sym (ap (λ (x : ℕ). rounded s (x * 2 ^ e) den) h ∙ ap (λ (x : ℕ). rounded s x den) (zero-mul (2 ^ e)) ∙ rounded-none s den)

-- ---- equal fractions round alike

pub not-lt-le : {x y : ℕ} → (x < y → ⊥) → y ≤ x
not-lt-le h = le_of_suc-le-suc (lt_of_not-le h)

pub rounded-same : (s a b c d : ℕ) → 0 < b → 0 < d → a * d ≡ c * b → rounded s a b ≡ rounded s c d
unfolding rounded
rounded-same s a b c d p q e =
    let k : ℕ = size (c / d) - 23 in
    ap (λ (n : ℕ). cond (eqb a 0) (Ok 0) (cond (ltb a (2 ^ 22 * b)) (Err (trap_of 8 2)) (float s (closest a (b * 2 ^ (size n - 23))) (size n - 23)))) (div_same a b c d p q e)
    ∙ ap (λ (m : ℕ). cond (eqb a 0) (Ok 0) (cond (ltb a (2 ^ 22 * b)) (Err (trap_of 8 2)) (float s m k)))
    (closest_same a (b * 2 ^ k) c (d * 2 ^ k) (mul-pos p (pow_pos k)) (mul-pos q (pow_pos k)) (sym (mul_assoc a d (2 ^ k)) ∙ ap (λ (x : ℕ). x * 2 ^ k) e ∙ mul_assoc c b (2 ^ k)))
    ∙ ap₂ (λ (t u : Bool). cond t (Ok 0) (cond u (Err (trap_of 8 2)) (float s (closest c (d * 2 ^ k)) k))) none under
  where
    -- a is 0 when c is, and below 2 ^ 22 b when c is below 2 ^ 22 d
    none : eqb a 0 ≡ eqb c 0
    none = ⊎_elim (λ (z : c ≡ 0). eq-eqb a 0 (eq_of_mul-eq-mul_right d q a 0 (e ∙ ap (λ (x : ℕ). x * b) z ∙ zero-mul b ∙ sym (zero-mul d))) ∙ sym (eq-eqb c 0 z)) (λ (z : 0 < c). ne_eqb a 0 (λ (y : a ≡ 0). lt_irrefl 0 (subst (λ (x : ℕ). 0 < x) (sym e ∙ ap (λ (x : ℕ). x * d) y ∙ zero-mul d) (mul-pos z p))) ∙ sym (ne_eqb c 0 (λ (y : c ≡ 0). lt_irrefl 0 (subst (λ (x : ℕ). 0 < x) y z)))) (eq-zero-or-pos c)

    under : ltb a (2 ^ 22 * b) ≡ ltb c (2 ^ 22 * d)
    under = elim (dec_lt c (2 ^ 22 * d)) [
      | yes z ↦ lt-ltb a (2 ^ 22 * b) (lt_of_mul-lt-mul_right d (subst (λ (x : ℕ). x < 2 ^ 22 * b * d) (sym e) (lt_of_lt_of_le (mul-lt-mul_of_pos_right z p) (le_of_eq (mul_right_comm (2 ^ 22) d b))))) ∙ sym (lt-ltb c (2 ^ 22 * d) z)
      | no z ↦ le-ltb a (2 ^ 22 * b) (le_of_mul-le-mul_right (subst (λ (x : ℕ). 2 ^ 22 * b * d ≤ x) (sym e) (le_trans (le_of_eq (mul_right_comm (2 ^ 22) b d)) (mul-le-mul_right b (not-lt-le z)))) q) ∙ sym (le-ltb c (2 ^ 22 * d) (not-lt-le z))
    ]

-- ---- integers

module _ (s n : ℕ) where
  pub integer-none : n ≡ 0 → Ok 0 ≡ integer s n
  unfolding integer
  integer-none h = ap (integer s) (sym h)

  pub integer-fits : (n ≡ 0 → ⊥) → n < 2 ^ 23 → Ok (s * 2 ^ 31 + n) ≡ integer s n
  unfolding integer
  integer-fits h l = sym (ap₂ (λ (t u : Bool). cond t (Ok (cond u 0 (s * 2 ^ 31 + n))) integer_overflow) (lt-ltb n (2 ^ 23) l) (ne_eqb n 0 h))

  pub integer-over : 2 ^ 23 ≤ n → integer_overflow ≡ integer s n
  unfolding integer
  integer-over l = sym (ap (λ (t : Bool). cond t (Ok (integer_word s n)) integer_overflow) (le-ltb n (2 ^ 23) l))
