-- Every result is a scalar: an integer, a float and a character are made with no stray bit, and zero with no sign.
use Rattle.std.proofs.Common.{Ok}
use Prim.Native.Nat.{ℕ, ◌+◌, ◌-◌, ◌*◌, ◌/◌, ◌%◌, ◌^◌, ◌≤◌, ◌<◌}
use mathlib.Core.Path.{◌≡◌, refl, sym, ap, ◌∙◌, subst}
use mathlib.Core.Bool.{Bool, true, false, cond, not, ◌&&◌, ◌||◌}
use mathlib.Core.Logic.{⊎_elim}
use native.Mathlib.Nat.{eq-zero-or-pos, zero-mul}
use native.Mathlib.Decide.{dec_lt, ℕ_discrete}
use native.Mathlib.Omega.{arith}
use borrow.Author.Tests.{eq-eqb, ne_eqb, eqb-true, eqb-false, ltb-true}
use lib.Dec.{ltb, eqb, lit<}
use lib.Pow.{pow_pos}
use Rattle.descriptor.specs.Fields.{sign, is_float, is_character, integer_word, character_word}
use Rattle.descriptor.specs.Kinds.{is_scalar, kind_of, bit}
use Rattle.descriptor.proofs.Scalars.{small-scalar, large-scalar}
use Rattle.operator.specs.declared.Monadic.{Monadic}
use Rattle.operator.specs.declared.Monadic.TheVariants as M
use Rattle.operator.specs.declared.Dyadic.{Dyadic}
use Rattle.operator.specs.declared.Dyadic.TheVariants as D
use Rattle.scalar.specs.Value.{one, units, one_float, character_code}
use Rattle.scalar.specs.Results.{type_error, zero_divisor, domain_error, integer, rounded, result, Answer}
use Rattle.scalar.specs.Reading.{whole_of, truth_of}
use Rattle.scalar.specs.Order.{is_below, is_equal}
use Rattle.scalar.specs.Operators.{number, numbers, identity, negative, with_sign, ones, whole_near, floor, ceiling, magnitude_of, not_truth, not_of, test_number, character_of, converted, convert, sum_sign, sum_size, plus, sum, minus, difference, product_sign, times, product, ratio_of, quotient, logical, logical_product, logical_sum, less, equal, monadic_of, dyadic_of}
use Rattle.scalar.specs.Parts.{one_character}
use Rattle.scalar.specs.declared.Whole.{Whole}
use Rattle.scalar.specs.declared.Whole.TheVariants as W
use Rattle.scalar.specs.declared.Truth.{Truth}
use Rattle.scalar.specs.declared.Truth.TheVariants as T
use Rattle.scalar.proofs.Operands.{character-bits}
use Rattle.scalar.proofs.Rounding.{not-lt-le, rounded-none}
use Rattle.scalar.proofs.Units.{units-integer}
use Rattle.scalar.proofs.Addition.{sign-lt}
use Rattle.scalar_theorems.specs.Validity.{Valid, ValidResults}
use Rattle.scalar_theorems.proofs.Words.{never, same_word, integer-word, rounded-word}

-- a word that an answer gives is valid if the answer's own word is
at-word : {x : Answer} {v w : ℕ} → x ≡ Ok w → x ≡ Ok v → Valid v → Valid w
at-word {x} {v} {w} h e k = subst (λ (y : ℕ). Valid y) (same_word h e) k

-- ---- the kinds of words

valid-float : (w : ℕ) → w < 2 ^ 32 → is_float w ≡ true → Valid w
unfolding is_scalar kind_of
valid-float w f h = record { word = f; scalar = simp h }

-- bits 30–23 clear, and not minus zero
pub valid-small : (w : ℕ) → w < 2 ^ 32 → w % 2 ^ 31 ≤ 8388607 → (w ≡ 2 ^ 31 → ⊥) → Valid w
valid-small w f l n = record { word = f; scalar = small-scalar w f l ∙ ap not (ne_eqb w (2 ^ 31) n) }

pub valid-integer : (s n : ℕ) → s < 2 → n < 2 ^ 23 → Valid (integer_word s n)
valid-integer s n p l = go (eqb n 0) refl
  where
    go : (t : Bool) → eqb n 0 ≡ t → Valid (cond t 0 (s * 2 ^ 31 + n))
    go true e = valid-small 0 (lit< tt) (omega arith) (λ z. omega arith)
    go false e = let k = eqb-false n 0 e in valid-small (s * 2 ^ 31 + n) (omega arith) (omega arith) (λ z. k (omega arith))

valid-bit : (t : Bool) → Valid (bit t)
valid-bit true = valid-small 1 (lit< tt) (omega arith) (λ z. omega arith)
valid-bit false = valid-small 0 (lit< tt) (omega arith) (λ z. omega arith)

valid-character : (c : ℕ) → c < 2 ^ 8 → Valid (character_word c)
valid-character c l = record { word = omega arith; scalar = large-scalar (character_word c) (omega arith) (λ z. omega arith) (omega arith) ∙ eq-eqb (character_word c / 2 ^ 8) (2 ^ 16) (omega arith) }

-- a scalar that is neither a float nor a character is small
small : (a : ℕ) → Valid a → is_character a ≡ false → (a / 2 ^ 30 % 2 ≡ 1 → ⊥) → a % 2 ^ 31 ≤ 8388607
small a v plain n = elim (dec_lt 8388607 (a % 2 ^ 31)) [
  | yes l ↦
      let k = eqb-true (a / 2 ^ 8) (2 ^ 16) (sym (large-scalar a v.word n l) ∙ v.scalar) in
      absurd (eqb-false (a / 2 ^ 24 % 2 ^ 7) 1 (character-bits a ∙ plain) (omega arith))
  | no l ↦ not-lt-le l
]

-- with another sign, unless it is zero
valid-signed : (t a : ℕ) → t < 2 → Valid a → is_character a ≡ false → (units a ≡ 0 → ⊥) → Valid (t * 2 ^ 31 + a % 2 ^ 31)
valid-signed t a p v plain z = elim (ℕ_discrete (a / 2 ^ 30 % 2) 1) [
  | yes q ↦ valid-float (t * 2 ^ 31 + a % 2 ^ 31) (omega arith) (eq-eqb ((t * 2 ^ 31 + a % 2 ^ 31) / 2 ^ 30 % 2) 1 (omega arith))
  | no q ↦ let l = small a v plain q in valid-small (t * 2 ^ 31 + a % 2 ^ 31) (omega arith) (omega arith) (λ y. z (units-integer a (omega (arith, q)) ∙ ap (λ (x : ℕ). x * one) (none l y) ∙ zero-mul one))
]
  where
    none : a % 2 ^ 31 ≤ 8388607 → t * 2 ^ 31 + a % 2 ^ 31 ≡ 2 ^ 31 → a % 2 ^ 23 ≡ 0
    none l y = omega arith

-- ---- the results

integer-valid : (s n w : ℕ) → s < 2 → integer s n ≡ Ok w → Valid w
integer-valid s n w p h = let k = integer-word s n w h in subst (λ (y : ℕ). Valid y) k.1 (valid-integer s n p k.0)

rounded-valid : (s num den w : ℕ) → s < 2 → 0 < den → rounded s num den ≡ Ok w → Valid w
rounded-valid s num den w p c h = ⊎_elim
    (λ (z : num ≡ 0). at-word h (ap (λ (x : ℕ). rounded s x den) z ∙ rounded-none s den) (valid-bit false))
    (λ (z : 0 < num). let k = rounded-word s num den w p c z h in valid-float w k.word k.float)
    (eq-zero-or-pos num)

result-valid : (floating : Bool) (s num den w : ℕ) → s < 2 → 0 < den → result floating s num den ≡ Ok w → Valid w
unfolding result
result-valid true s num den w p c h = rounded-valid s num den w p c h
result-valid false s num den w p c h = integer-valid s (num / den / one) w p h

plus-valid : (floating : Bool) (s n t m w : ℕ) → s < 2 → t < 2 → plus floating s n t m ≡ Ok w → Valid w
unfolding plus
plus-valid floating s n t m w p q h = result-valid floating (sum_sign s n t m) (sum_size s n t m) 1 w (sign-lt s n t m p q) (lit< tt) h

-- past the type errors
past : (t : Bool) (x : Answer) (w : ℕ) → cond t type_error x ≡ Ok w → (t ≡ false) × (x ≡ Ok w)
past true x w h = absurd (never h refl)
past false x w h = (refl, h)

-- ---- of one operand

module _ (a w : ℕ) (v : Valid a) where
  sign-valid : (t : ℕ) → t < 2 → number a (with_sign t a) ≡ Ok w → Valid w
  sign-valid t p h = let k = past (is_character a) (with_sign t a) w h in go k.0 k.1 (eqb (units a) 0) refl
    where
      go : is_character a ≡ false → with_sign t a ≡ Ok w → (b : Bool) → eqb (units a) 0 ≡ b → Valid w
      go plain e true z = at-word e (ap (λ (x : Bool). Ok (cond x 0 (t * 2 ^ 31 + a % 2 ^ 31))) z) (valid-bit false)
      go plain e false z = at-word e (ap (λ (x : Bool). Ok (cond x 0 (t * 2 ^ 31 + a % 2 ^ 31))) z) (valid-signed t a p v plain (eqb-false (units a) 0 z))

  near-valid : (up : ℕ) → number a (whole_near up a) ≡ Ok w → Valid w
  unfolding whole_near
  near-valid up h = go (ltb (units a) (2 ^ 173)) (past (is_character a) (whole_near up a) w h).1
    where
      go : (b : Bool) → cond b (integer (sign a) (ones up (units a))) (Ok a) ≡ Ok w → Valid w
      go true e = let f = v.word in integer-valid (sign a) (ones up (units a)) w (omega arith) e
      go false e = at-word e refl v

  not_valid : (t : Truth) → not_truth t ≡ Ok w → Valid w
  not_valid T.Character h = absurd (never h refl)
  not_valid T.Other h = absurd (never h refl)
  not_valid (T.Value p) h = at-word h refl (valid-bit (not p))

  character-valid : (negative : Bool) (n : ℕ) → character_of negative n ≡ Ok w → Valid w
  character-valid true n h = absurd (never h refl)
  character-valid false n h = go (ltb n (2 ^ 8)) refl h
    where
      go : (b : Bool) → ltb n (2 ^ 8) ≡ b → cond b (Ok (character_word n)) domain_error ≡ Ok w → Valid w
      go true e k = at-word k refl (valid-character n (ltb-true n (2 ^ 8) e))
      go false e k = absurd (never k refl)

  convert-valid : (x : Whole) → converted a x ≡ Ok w → Valid w
  convert-valid W.Character h = at-word h refl (valid-integer 0 (character_code a) (lit< tt) (omega arith))
  convert-valid W.Fraction h = absurd (never h refl)
  convert-valid (W.Number negative n) h = character-valid negative n h

  monadic-valid : (o : Monadic) → monadic_of o a ≡ Ok w → Valid w
  unfolding identity negative floor ceiling magnitude_of not_of test_number convert
  monadic-valid M.Identity h = at-word (past (is_character a) (Ok a) w h).1 refl v
  monadic-valid M.Negative h = sign-valid (1 - sign a) (omega arith) h
  monadic-valid M.Floor h = near-valid (sign a) h
  monadic-valid M.Ceiling h = near-valid (1 - sign a) h
  monadic-valid M.Magnitude h = sign-valid 0 (lit< tt) h
  monadic-valid M.Not h = not_valid (truth_of a) h
  monadic-valid M.TestNumber h = at-word h refl (valid-bit (not (is_character a)))
  monadic-valid M.Convert h = convert-valid (whole_of a) h

-- ---- of two operands

module _ (a b w : ℕ) (va : Valid a) (vb : Valid b) where
  -- past the type errors of both
  both : (x : Answer) → numbers a b x ≡ Ok w → x ≡ Ok w
  both x h = (past (one_character a b) x w h).1

  sign-a : sign a < 2
  sign-a = let f = va.word in omega arith

  sign-b : sign b < 2
  sign-b = let f = vb.word in omega arith

  minus-valid : (u : ℕ) → minus a b ≡ Ok u → Valid u
  unfolding minus
  minus-valid u h = plus-valid (one_float a b) (sign a) (units a) (1 - sign b) (units b) u sign-a (omega arith) h

  times-valid : times a b ≡ Ok w → Valid w
  unfolding times
  times-valid h = result-valid (one_float a b) (product_sign a b) (units a * units b) one w (omega arith) (pow_pos 150) h

  ratio-valid : ratio_of a b ≡ Ok w → Valid w
  unfolding ratio_of
  ratio-valid h = go (eqb (units b) 0) refl h
    where
      go : (t : Bool) → eqb (units b) 0 ≡ t → cond t zero_divisor (rounded (product_sign a b) (units a * one) (units b)) ≡ Ok w → Valid w
      go true e k = absurd (never k refl)
      go false e k = rounded-valid (product_sign a b) (units a * one) (units b) w (omega arith) (pos (units b) (eqb-false (units b) 0 e)) k
        where
          pos : (n : ℕ) → (n ≡ 0 → ⊥) → 0 < n
          pos n z = omega (arith, z)

  logical-valid : (f : Bool → Bool → Bool) (p q : Truth) → logical f p q ≡ Ok w → Valid w
  logical-valid f T.Character q h = absurd (never h refl)
  logical-valid f T.Other T.Character h = absurd (never h refl)
  logical-valid f T.Other T.Other h = absurd (never h refl)
  logical-valid f T.Other (T.Value q) h = absurd (never h refl)
  logical-valid f (T.Value p) T.Character h = absurd (never h refl)
  logical-valid f (T.Value p) T.Other h = absurd (never h refl)
  logical-valid f (T.Value p) (T.Value q) h = at-word h refl (valid-bit (f p q))

  equal-valid : equal a b ≡ Ok w → Valid w
  unfolding equal
  equal-valid h = go (is_character a) (is_character b) h
    where
      go : (t u : Bool) → cond {A = Answer} t (Ok (bit (u && eqb (character_code a) (character_code b)))) (cond u (Ok 0) (Ok (bit (is_equal a b)))) ≡ Ok w → Valid w
      go true u k = at-word k refl (valid-bit (u && eqb (character_code a) (character_code b)))
      go false true k = at-word k refl (valid-bit false)
      go false false k = at-word k refl (valid-bit (is_equal a b))

  dyadic-valid : (o : Dyadic) → dyadic_of o a b ≡ Ok w → Valid w
  unfolding sum difference product quotient logical_product logical_sum less
  dyadic-valid D.Sum h = plus-valid (one_float a b) (sign a) (units a) (sign b) (units b) w sign-a sign-b (both _ h)
  dyadic-valid D.Difference h = minus-valid w (both _ h)
  dyadic-valid D.Product h = times-valid (both _ h)
  dyadic-valid D.Quotient h = ratio-valid (both _ h)
  dyadic-valid D.LogicalProduct h = logical-valid ◌&&◌ (truth_of a) (truth_of b) h
  dyadic-valid D.LogicalSum h = logical-valid ◌||◌ (truth_of a) (truth_of b) h
  dyadic-valid D.Less h = at-word (both _ h) refl (valid-bit (is_below a b))
  dyadic-valid D.Equal h = equal-valid h

pub valid-results : ValidResults
valid-results = record { monadic = λ o a w v h. monadic-valid a w v o h; dyadic = λ o a b w v u h. dyadic-valid a b w v u o h }
