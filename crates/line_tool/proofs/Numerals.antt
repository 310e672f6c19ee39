-- Numerals read digit by digit: their test, their number up to a cap, and its bound.
use Prim.Native.Nat.{ℕ, zero, suc, ◌+◌, ◌-◌, ◌*◌, ◌^◌, ◌≤◌, ◌<◌, min}
use native.Mathlib.Nat.{mul-zero, mul-suc, mul_assoc, mul-one, one-mul, add-mul, mul-le-mul, mul-le-mul_right, lt_of_lt_of_le, min-eq_left, min-eq_right, eq-zero-or-pos, pow-zero, pow-succ', pow-le-pow_right}
use native.Mathlib.Numerals.{add-one}
use native.Mathlib.Omega.{arith}
use mathlib.Core.Logic.{⊎_elim}
use mathlib.Core.Path.{◌≡◌, refl, sym, ap, ◌∙◌}
use mathlib.Core.Bool.{Bool, true, false, cond, false≢true}
use mathlib.Core.List.{List, [], ◌∷◌}
use borrow.Author.Tests.{lt-ltb, le-ltb, le-leb, lt-leb, leb-false, ne_eqb}
use lib.Dec.{leb, lit<}
use lib.ListN.{length, get_or, drop}
use lib.Seq.{drop-cons, drop-length}
use Rattle.line_tool.specs.Numbers.{digit_of, is_numeral, number_from, number_of, decimal_number, hex_number}
use Rattle.line_tool.specs.declared.fault.Fault.TheVariants.{TooLarge}
use Rattle.std.proofs.Common.{Ok, Err}

-- the first i bytes are digits of the base
pub record NumeralFrom (base : ℕ) (s : List ℕ) (i : ℕ) : Type 0 where
  pub so_far : is_numeral base (drop i s) ≡ is_numeral base s

module _ {base : ℕ} {s : List ℕ} {i : ℕ} where
  pub numeral-stop : NumeralFrom base s i → i < length s → base ≤ digit_of (get_or s i 0) → false ≡ is_numeral base s
  numeral-stop f h e = rw (drop-cons s i 0 h, le-leb _ _ e) at f.so_far

  pub numeral-on : NumeralFrom base s i → i < length s → digit_of (get_or s i 0) < base → NumeralFrom base s (i + 1)
  numeral-on f h e = record { so_far = rw (add-one i) (rw (drop-cons s i 0 h, lt-leb _ _ e) at f.so_far) }

  pub numeral-all : NumeralFrom base s i → i ≡ length s → true ≡ is_numeral base s
  numeral-all f e = rw (e, drop-length s) at f.so_far

-- ---- the number up to a cap

cap-step-high : (x c base d : ℕ) → c ≤ x → min (c * base + d) c ≡ min (x * base + d) c
cap-step-high x c zero d h = rw (mul-zero c, mul-zero x)
cap-step-high x c (suc base) d h = rw (mul-suc c base, mul-suc x base) (omega arith)

cap-step : (x c base d : ℕ) → min (min x c * base + d) c ≡ min (x * base + d) c
cap-step x c base d =
    ⊎_elim
    (λ (e : x - c ≡ 0). let h : x ≤ c = omega arith in rw (min-eq_left h))
    (λ (e : 0 < x - c). let h : c ≤ x = omega arith in rw (min-eq_right h) (cap-step-high x c base d h))
    (eq-zero-or-pos (x - c))

capped-from : (base c x : ℕ) (w : List ℕ) → min (number_from base (min x c) w) c ≡ min (number_from base x w) c
capped-from base c x [] = omega arith
capped-from base c x (b ∷ w) =
    sym (capped-from base c (min x c * base + digit_of b) w)
    ∙ ap (λ (k : ℕ). min (number_from base k w) c) (cap-step x c base (digit_of b))
    ∙ capped-from base c (x * base + digit_of b) w

-- n is the number of the first i bytes, up to the cap
pub record CappedFrom (base c : ℕ) (s : List ℕ) (n i : ℕ) : Type 0 where
  pub so_far : min (number_from base n (drop i s)) c ≡ min (number_of base s) c
  pub low : n ≤ c

module _ {base c : ℕ} {s : List ℕ} where
  pub capped-start : CappedFrom base c s 0 0
  capped-start = record { so_far = refl; low = omega arith }

  pub capped-on : {n i r : ℕ} → CappedFrom base c s n i → i < length s → r ≡ min (n * base + digit_of (get_or s i 0)) c → CappedFrom base c s r (i + 1)
  capped-on {n} {i} {r} f h e =
      record {
        so_far =
            rw (e, add-one i)
            (capped-from base c (n * base + digit_of (get_or s i 0)) (drop (suc i) s) ∙ rw (drop-cons s i 0 h) at f.so_far);
        low = omega arith;
      }

  pub capped-all : {n i : ℕ} → CappedFrom base c s n i → i ≡ length s → n ≡ min (number_of base s) c
  capped-all {n} f e =
      let h : min n c ≡ min (number_of base s) c = rw (e, drop-length s) at f.so_far in
      omega (arith, f.low)

-- ---- the bound of a numeral

not_digit : (b : Bool) {rest : Bool} → cond b false rest ≡ true → (b ≡ false) × (rest ≡ true)
not_digit true e = absurd (false≢true e)
not_digit false e = (refl, e)

numeral-bound : (base n : ℕ) (w : List ℕ) → is_numeral base w ≡ true → number_from base n w < (n + 1) * base ^ length w
numeral-bound base n [] e = rw (pow-zero base, mul-one (n + 1)) (omega arith)
numeral-bound base n (b ∷ w) e = lt_of_lt_of_le (numeral-bound base (n * base + digit_of b) w rest.1) more
  where
    rest : (leb base (digit_of b) ≡ false) × (is_numeral base w ≡ true)
    rest = not_digit (leb base (digit_of b)) e

    digit-more : n * base + digit_of b + 1 ≤ (n + 1) * base
    digit-more = rw (add-mul n 1 base, one-mul base) (omega (arith, leb-false base (digit_of b) rest.0))

    more : (n * base + digit_of b + 1) * base ^ length w ≤ (n + 1) * base ^ suc (length w)
    more = rw (pow-succ' base (length w), ← mul_assoc (n + 1) base (base ^ length w)) (mul-le-mul_right (base ^ length w) digit-more)

-- a HEX word of at most 8 digits is a word
hex-bound : (w : List ℕ) → is_numeral 16 w ≡ true → length w ≤ 8 → number_of 16 w < 2 ^ 32
hex-bound w e h = lt_of_lt_of_le (numeral-bound 16 0 w e) (rw (one-mul (16 ^ length w)) (pow-le-pow_right (lit< tt) h))

-- the next number of the loop is far from wrapping
pub times-low : (n base : ℕ) → n ≤ 2 ^ 32 → base < 256 → n * base ≤ 2 ^ 32 * 255
times-low n base h b = let l : base ≤ 255 = omega arith in mul-le-mul h l

-- ---- the answers of decimal and hex

pub hex-fits : (w : List ℕ) {n : ℕ} → is_numeral 16 w ≡ true → length w ≤ 8 → n ≡ min (number_of 16 w) (2 ^ 32) → n < 2 ^ 32
hex-fits w d h e = omega (arith, hex-bound w d h)

module _ (w : List ℕ) {n : ℕ} (some : length w ≡ 0 → ⊥) where
  pub decimal-large : is_numeral 10 w ≡ true → n ≡ min (number_of 10 w) (2 ^ 32) → 0xffff_ffff < n → Err TooLarge ≡ decimal_number w
  unfolding decimal_number
  decimal-large d e h =
      let l : 0xffff_ffff < number_of 10 w = omega arith in
      simp (ne_eqb _ _ some, d, lt-ltb _ _ l)

  pub decimal-value : is_numeral 10 w ≡ true → n ≡ min (number_of 10 w) (2 ^ 32) → n ≤ 0xffff_ffff → Ok n ≡ decimal_number w
  unfolding decimal_number
  decimal-value d e h =
      let l : number_of 10 w ≤ 0xffff_ffff = omega arith in
      let v : n ≡ number_of 10 w = omega arith in
      simp (ne_eqb _ _ some, d, le-ltb _ _ l, v)

  pub hex-value : is_numeral 16 w ≡ true → length w ≤ 8 → n ≡ min (number_of 16 w) (2 ^ 32) → Ok n ≡ hex_number w
  unfolding hex_number
  hex-value d h e =
      let v : n ≡ number_of 16 w = omega (arith, hex-bound w d h) in
      simp (ne_eqb _ _ some, d, le-ltb _ _ h, v)
