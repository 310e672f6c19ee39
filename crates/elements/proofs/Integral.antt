-- The words that the fast loops store are those of the operators, for integers whose result is an integer.
use Rattle.std.proofs.Common.{Ok}
use Prim.Native.Nat.{ℕ, ◌+◌, ◌-◌, ◌*◌, ◌/◌, ◌%◌, ◌^◌, ◌≤◌, ◌<◌, min}
use native.Mathlib.Nat.{mod-eq_of_lt}
use native.Mathlib.Omega.{arith}
use mathlib.Core.Path.{◌≡◌, refl, sym, ap, ap₂, ◌∙◌}
use mathlib.Core.Bool.{◌||◌}
use borrow.Author.Tests.{eq-eqb, ne_eqb, lt-ltb}
use Rattle.descriptor.specs.Fields.{sign, magnitude}
use Rattle.scalar.specs.Value.{units, one_float}
use Rattle.scalar.specs.Results.{Answer, integer}
use Rattle.scalar.specs.Operators.{sum_sign, sum_size, plus, minus, times, sum, difference, product, product_sign, numbers}
use Rattle.scalar.proofs.Operands.{numbers-plain, small_plain}
use Rattle.scalar.proofs.Addition.{like, less, more, cases, either, plus-integers, sum-integers, minus-integers}
use Rattle.scalar.proofs.Multiplication.{product-integer}
use Rattle.elements.specs.Parts.{Plain, Offset, Back}

-- ---- the word of a signed magnitude

-- r is the word of the number of sign s and magnitude k
record IsWord (s k r : ℕ) : Type 0 where
  short : k < 2 ^ 23
  none : k ≡ 0 → r ≡ 0
  some : 0 < k → r ≡ s * 2 ^ 31 + k

integer-word : (s k r : ℕ) → IsWord s k r → integer s k ≡ Ok r
unfolding integer
integer-word s k r w = either (integer s k ≡ Ok r) (min k 1) (omega arith) (λ e. zero (omega arith)) (λ e. other (omega arith))
  where
    zero : k ≡ 0 → integer s k ≡ Ok r
    zero e = simp (eq-eqb k 0 e, lt-ltb k (2 ^ 23) w.short) (ap Ok (sym (w.none e)))

    other : 0 < k → integer s k ≡ Ok r
    other h = simp (ne_eqb k 0 (λ e. omega arith), lt-ltb k (2 ^ 23) w.short) (ap Ok (sym (w.some h)))

plain-high : (d : ℕ) → d ≤ 2 ^ 24 → Plain (2 ^ 31 + d) → d < 2 ^ 23
plain-high d h p = omega arith

plain-low : (d : ℕ) → d ≤ 2 ^ 24 → Plain d → d < 2 ^ 23
plain-low d h p = omega arith

-- the word that comes back is that of the number v - 2 ^ 25
back_low : (v k r : ℕ) → Back v r → v + k ≡ 2 ^ 25 → 0 < k → k ≤ 2 ^ 24 → Plain r → IsWord 1 k r
back_low v k r b e h l p =
    let x : r ≡ 2 ^ 31 + k = omega (arith, b.low (omega arith)) in
    record { short = plain-high k l (rw x at p); none = λ z. omega arith; some = λ z. omega arith }

back-high : (s v k r : ℕ) → Back v r → v ≡ 2 ^ 25 + k → (0 < k → s ≡ 0) → k ≤ 2 ^ 24 → Plain r → IsWord s k r
back-high s v k r b e h l p =
    let x : r ≡ k = omega (arith, b.high (omega arith)) in
    record { short = plain-low k l (rw x at p); none = λ z. omega arith; some = λ z. omega (arith, h z) }

module _ (n m o q r : ℕ) (hn : n < 2 ^ 23) (hm : m < 2 ^ 23) (b : Back (o + q) r) (p : Plain r) where
  Goal : ℕ → ℕ → Type 0
  Goal s t = integer (sum_sign s n t m) (sum_size s n t m) ≡ Ok r

  by : (s t i k : ℕ) → (sum_sign s n t m ≡ i) × (sum_size s n t m ≡ k) → IsWord i k r → Goal s t
  unfolding Goal
  by s t i k e w = ap₂ integer e.0 e.1 ∙ integer-word i k r w

  both-plus : o ≡ 2 ^ 24 + n → q ≡ 2 ^ 24 + m → Goal 0 0
  both-plus x y = by 0 0 0 (n + m) (like 0 n 0 m refl) (back-high 0 (o + q) (n + m) r b (omega arith) (λ z. refl) (omega arith) p)

  both-minus : o + n ≡ 2 ^ 24 → q + m ≡ 2 ^ 24 → Goal 1 1
  both-minus x y = by 1 1 1 (n + m) (like 1 n 1 m refl) (two (n + m) refl)
    where
      two : (k : ℕ) → k ≡ n + m → IsWord 1 k r
      two k e = either (IsWord 1 k r) (min k 1) (omega arith)
          (λ z. back-high 1 (o + q) k r b (omega arith) (λ z'. omega arith) (omega arith) p)
          (λ z. back_low (o + q) k r b (omega arith) (omega arith) (omega arith) p)

  plus-minus : o ≡ 2 ^ 24 + n → q + m ≡ 2 ^ 24 → Goal 0 1
  unfolding Goal
  plus-minus x y = cases 0 n 1 m (integer (sum_sign 0 n 1 m) (sum_size 0 n 1 m) ≡ Ok r) (λ e. absurd (omega arith))
      (λ e l. by 0 1 1 (m - n) (less 0 n 1 m e l) (back_low (o + q) (m - n) r b (omega arith) (omega arith) (omega arith) p))
      (λ e l. by 0 1 0 (n - m) (more 0 n 1 m e l) (back-high 0 (o + q) (n - m) r b (omega arith) (λ z. refl) (omega arith) p))

  minus_plus : o + n ≡ 2 ^ 24 → q ≡ 2 ^ 24 + m → Goal 1 0
  unfolding Goal
  minus_plus x y = cases 1 n 0 m (integer (sum_sign 1 n 0 m) (sum_size 1 n 0 m) ≡ Ok r) (λ e. absurd (omega arith))
      (λ e l. by 1 0 0 (m - n) (less 1 n 0 m e l) (back-high 0 (o + q) (m - n) r b (omega arith) (λ z. refl) (omega arith) p))
      (λ e l. by 1 0 1 (n - m) (more 1 n 0 m e l) (two (n - m) refl l))
    where
      two : (k : ℕ) → k ≡ n - m → m ≤ n → IsWord 1 k r
      two k e l = either (IsWord 1 k r) (min k 1) (omega arith)
          (λ z. back-high 1 (o + q) k r b (omega arith) (λ z'. omega arith) (omega arith) p)
          (λ z. back_low (o + q) k r b (omega arith) (omega arith) (omega arith) p)

  any_sign : (s t : ℕ) → s < 2 → t < 2 → Offset s n o → Offset t m q → Goal s t
  any_sign s t hs ht x y =
      either (Goal s t) s hs
      (λ e. either (Goal s t) t ht
      (λ f. rw (e, f) (both-plus (x.plus e) (y.plus f)))
      (λ f. rw (e, f) (plus-minus (x.plus e) (y.minus f))))
      (λ e. either (Goal s t) t ht
      (λ f. rw (e, f) (minus_plus (x.minus e) (y.plus f)))
      (λ f. rw (e, f) (both-minus (x.minus e) (y.minus f))))

-- ---- plain words are integers

no-float : (x : ℕ) → Plain x → x / 2 ^ 30 % 2 ≡ 0
no-float x p = omega arith

-- two plain words are numbers
plain-numbers : (x y : ℕ) (answer : Answer) → Plain x → Plain y → numbers x y answer ≡ answer
plain-numbers x y answer p q = numbers-plain x y answer (ap₂ ◌||◌ (small_plain x p) (small_plain y q))

-- ---- sums and differences

negated : (s n q : ℕ) → s < 2 → n < 2 ^ 23 → Offset s n q → Offset (1 - s) n (2 ^ 25 - q)
negated s n q hs hn o =
    record {
      plus = λ e. omega (arith, o.minus (omega arith));
      minus = λ e. omega (arith, o.plus (omega arith));
      small = either (2 ^ 25 - q < 2 ^ 25) s hs (λ e. omega (arith, o.plus e)) (λ e. omega (arith, o.minus e));
    }

module _ (x y o q r : ℕ) (hx : x < 2 ^ 32) (hy : y < 2 ^ 32) (ox : Offset (x / 2 ^ 31) (x % 2 ^ 23) o) (oy : Offset (y / 2 ^ 31) (y % 2 ^ 23) q) (px : Plain x) (py : Plain y) (pr : Plain r) where
  pub fast_sum : Back (o + q) r → sum x y ≡ Ok r
  unfolding sum Goal
  fast_sum b =
      plain-numbers x y (plus (one_float x y) (sign x) (units x) (sign y) (units y)) px py
      ∙ sym (sum-integers x y (x / 2 ^ 31) (y / 2 ^ 31) (no-float x px) (no-float y py))
      ∙ plus-integers (x / 2 ^ 31) (x % 2 ^ 23) (y / 2 ^ 31) (y % 2 ^ 23)
      ∙ any_sign (x % 2 ^ 23) (y % 2 ^ 23) o q r (omega arith) (omega arith) b pr (x / 2 ^ 31) (y / 2 ^ 31) (omega arith) (omega arith) ox oy

  pub fast-difference : Back (o + (2 ^ 25 - q)) r → difference x y ≡ Ok r
  unfolding difference Goal
  fast-difference b =
      plain-numbers x y (minus x y) px py
      ∙ sym (minus-integers x y (no-float x px) (no-float y py))
      ∙ plus-integers (x / 2 ^ 31) (x % 2 ^ 23) (1 - y / 2 ^ 31) (y % 2 ^ 23)
      ∙ any_sign (x % 2 ^ 23) (y % 2 ^ 23) o (2 ^ 25 - q) r (omega arith) (omega arith) b pr (x / 2 ^ 31) (1 - y / 2 ^ 31) (omega arith) (omega arith) ox
      (negated (y / 2 ^ 31) (y % 2 ^ 23) q (omega arith) (omega arith) oy)

-- ---- products

-- from the product p of the magnitudes, of which the lowest 23 bits are taken
module _ (x y p r : ℕ) (px : Plain x) (py : Plain y) (e : p ≡ magnitude x * magnitude y) (h : magnitude x * magnitude y < 2 ^ 23) where
  pub fast-product : (p % 2 ^ 23 ≡ 0 → r ≡ 0) → ((p % 2 ^ 23 ≡ 0 → ⊥) → r ≡ product_sign x y * 2 ^ 31 + p % 2 ^ 23) → product x y ≡ Ok r
  unfolding product
  fast-product z k =
      plain-numbers x y (times x y) px py
      ∙ sym (product-integer x y (no-float x px) (no-float y py))
      ∙ ap (λ (m : ℕ). integer (product_sign x y) m) (sym e)
      ∙ integer-word (product_sign x y) p r (word whole)
    where
      whole : p % 2 ^ 23 ≡ p
      whole = mod-eq_of_lt (rw e h)

      word : p % 2 ^ 23 ≡ p → IsWord (product_sign x y) p r
      word w = record { short = rw e h; none = λ n. z (w ∙ n); some = λ l. k (λ n. omega arith) ∙ ap (λ (m : ℕ). product_sign x y * 2 ^ 31 + m) w }
