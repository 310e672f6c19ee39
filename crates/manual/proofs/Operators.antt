-- The traps of the scalar operators are in the table.
use Rattle.std.proofs.Common.{Ok}
use Prim.Native.Nat.{ℕ, ◌-◌, ◌*◌, ◌/◌, ◌^◌}
use mathlib.Core.Path.{refl}
use mathlib.Core.Bool.{Bool, true, false, cond, ◌&&◌, ◌||◌}
use lib.Dec.{ltb, eqb}
use lib.Ieee.{size}
use lib.Ieee.Nearest.{closest}
use Rattle.descriptor.specs.Fields.{sign, is_character}
use Rattle.operator.specs.declared.Monadic.{Monadic}
use Rattle.operator.specs.declared.Monadic.TheVariants as M
use Rattle.operator.specs.declared.Dyadic.{Dyadic}
use Rattle.operator.specs.declared.Dyadic.TheVariants as D
use Rattle.scalar.specs.declared.Whole.{Whole}
use Rattle.scalar.specs.declared.Whole.TheVariants as W
use Rattle.scalar.specs.declared.Truth.{Truth}
use Rattle.scalar.specs.declared.Truth.TheVariants as T
use Rattle.scalar.specs.Results.{Answer, integer, float, rounded, result}
use Rattle.scalar.specs.Value.{one, units, one_float}
use Rattle.scalar.specs.Reading.{whole_of, truth_of}
use Rattle.scalar.specs.Operators.{number, numbers, identity, with_sign, negative, ones, whole_near, floor, ceiling, magnitude_of, not_truth, not_of, test_number, converted, convert, sum_sign, sum_size, plus, sum, minus, difference, product_sign, times, product, ratio_of, quotient, logical, logical_product, logical_sum, less, equal, monadic_of, dyadic_of}
use Rattle.manual.specs.Values.{answered}
use Rattle.manual.specs.Traps.{listed}
use Rattle.manual.proofs.Lists.{Listed}

abbrev Answers : Answer → Type 0
Answers answer = Listed (answered answer)

chosen : (test : Bool) (x y : Answer) → Answers x → Answers y → Answers (cond test x y)
chosen true x y h k = h
chosen false x y h k = k

-- ---- results

integer-listed : (s n : ℕ) → Answers (integer s n)
unfolding integer listed
integer-listed s n = chosen (ltb n (2 ^ 23)) _ _ tt refl

float-listed : (s m e : ℕ) → Answers (float s m e)
unfolding float listed
float-listed s m e = chosen (ltb (m * 2 ^ e) (2 ^ 278)) _ _ tt refl

rounded-listed : (s num den : ℕ) → Answers (rounded s num den)
unfolding rounded listed
rounded-listed s num den =
    let e = size (num / den) - 23 in
    chosen (eqb num 0) _ _ tt (chosen (ltb num (2 ^ 22 * den)) _ _ refl (float-listed s (closest num (den * 2 ^ e)) e))

result-listed : (floating : Bool) (s num den : ℕ) → Answers (result floating s num den)
unfolding result
result-listed floating s num den = chosen floating _ _ (rounded-listed s num den) (integer-listed s (num / den / one))

-- ---- of one operand

number-listed : (a : ℕ) (answer : Answer) → Answers answer → Answers (number a answer)
unfolding listed
number-listed a answer h = chosen (is_character a) _ answer refl h

near-listed : (up a : ℕ) → Answers (whole_near up a)
unfolding whole_near
near-listed up a = chosen (ltb (units a) (2 ^ 173)) _ _ (integer-listed (sign a) (ones up (units a))) tt

not_listed : (t : Truth) → Answers (not_truth t)
unfolding listed
not_listed T.Character = refl
not_listed T.Other = refl
not_listed (T.Value p) = tt

converted-listed : (a : ℕ) (n : Whole) → Answers (converted a n)
unfolding listed
converted-listed a W.Character = tt
converted-listed a W.Fraction = refl
converted-listed a (W.Number true n) = refl
converted-listed a (W.Number false n) = chosen (ltb n (2 ^ 8)) _ _ tt refl

pub monadic-answers : (op : Monadic) (a : ℕ) → Answers (monadic_of op a)
unfolding identity negative floor ceiling magnitude_of not_of test_number convert
monadic-answers M.Identity a = number-listed a (Ok a) tt
monadic-answers M.Negative a = number-listed a (with_sign (1 - sign a) a) tt
monadic-answers M.Floor a = number-listed a (whole_near (sign a) a) (near-listed (sign a) a)
monadic-answers M.Ceiling a = number-listed a (whole_near (1 - sign a) a) (near-listed (1 - sign a) a)
monadic-answers M.Magnitude a = number-listed a (with_sign 0 a) tt
monadic-answers M.Not a = not_listed (truth_of a)
monadic-answers M.TestNumber a = tt
monadic-answers M.Convert a = converted-listed a (whole_of a)

-- ---- of two operands

numbers-listed : (a b : ℕ) (answer : Answer) → Answers answer → Answers (numbers a b answer)
unfolding listed
numbers-listed a b answer h = chosen (is_character a || is_character b) _ answer refl h

plus-listed : (floating : Bool) (s n t m : ℕ) → Answers (plus floating s n t m)
unfolding plus
plus-listed floating s n t m = result-listed floating (sum_sign s n t m) (sum_size s n t m) 1

minus-listed : (a b : ℕ) → Answers (minus a b)
unfolding minus
minus-listed a b = plus-listed (one_float a b) (sign a) (units a) (1 - sign b) (units b)

ratio-listed : (a b : ℕ) → Answers (ratio_of a b)
unfolding ratio_of listed
ratio-listed a b = chosen (eqb (units b) 0) _ _ refl (rounded-listed (product_sign a b) (units a * one) (units b))

logical-listed : (f : Bool → Bool → Bool) (p q : Truth) → Answers (logical f p q)
unfolding listed
logical-listed f T.Character q = refl
logical-listed f T.Other T.Character = refl
logical-listed f T.Other T.Other = refl
logical-listed f T.Other (T.Value q) = refl
logical-listed f (T.Value p) T.Character = refl
logical-listed f (T.Value p) T.Other = refl
logical-listed f (T.Value p) (T.Value q) = tt

pub dyadic-answers : (op : Dyadic) (a b : ℕ) → Answers (dyadic_of op a b)
unfolding sum difference times product quotient logical_product logical_sum less equal
dyadic-answers D.Sum a b = numbers-listed a b _ (plus-listed (one_float a b) (sign a) (units a) (sign b) (units b))
dyadic-answers D.Difference a b = numbers-listed a b _ (minus-listed a b)
dyadic-answers D.Product a b = numbers-listed a b _ (result-listed (one_float a b) (product_sign a b) (units a * units b) one)
dyadic-answers D.Quotient a b = numbers-listed a b _ (ratio-listed a b)
dyadic-answers D.LogicalProduct a b = logical-listed ◌&&◌ (truth_of a) (truth_of b)
dyadic-answers D.LogicalSum a b = logical-listed ◌||◌ (truth_of a) (truth_of b)
dyadic-answers D.Less a b = numbers-listed a b _ tt
dyadic-answers D.Equal a b = chosen (is_character a) _ _ tt (chosen (is_character b) _ _ tt tt)
