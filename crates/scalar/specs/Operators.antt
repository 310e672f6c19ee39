-- The sixteen operators of the GENSCALAR family on scalars, in the manual's order and words. Operand a is the first.
-- A reader must believe: each is the manual's, with document 01's zero and the order of decision 17 (each line of a trap
-- list is judged over both operands before the next), but for LESS and EQUAL of numbers, which are paper 4's. Assumes nothing.
use Rattle.std.specs.Prelude.{ℕ, ◌+◌, ◌-◌, ◌*◌, ◌/◌, ◌%◌, ◌^◌, Bool, true, false, cond, not, ◌&&◌, ◌||◌, ◌==◌, nat_lt, Ok}
use Rattle.descriptor.specs.Fields.{sign, is_character, integer_word, character_word}
use Rattle.descriptor.specs.Kinds.{bit}
use Rattle.operator.specs.declared.Monadic.{Monadic}
use Rattle.operator.specs.declared.Monadic.TheVariants as M
use Rattle.operator.specs.declared.Dyadic.{Dyadic}
use Rattle.operator.specs.declared.Dyadic.TheVariants as D
use Rattle.scalar.specs.Value.{one, units, one_float, character_code}
use Rattle.scalar.specs.Order.{is_below, is_equal}
use Rattle.scalar.specs.Results.{type_error, zero_divisor, domain_error, integer, rounded, result}
use Rattle.scalar.specs.Reading.{whole_of, truth_of}
use Rattle.scalar.specs.declared.Whole.{Whole}
use Rattle.scalar.specs.declared.Whole.TheVariants as W
use Rattle.scalar.specs.declared.Truth.{Truth}
use Rattle.scalar.specs.declared.Truth.TheVariants as T
use Rattle.scalar.specs.Results.{Answer}

-- "(7,0) -- Type error if the operand is of character type", or either of them.
abbrev pub number : ℕ → Answer → Answer
number a answer = cond (is_character a) type_error answer

abbrev pub numbers : ℕ → ℕ → Answer → Answer
numbers a b answer = cond (is_character a || is_character b) type_error answer

-- ---- of one operand

unfoldable pub identity : ℕ → Answer
identity a = number a (Ok a)

-- The number of a with the sign s; zero has none.
abbrev pub with_sign : ℕ → ℕ → Answer
with_sign s a = Ok (cond (units a == 0) 0 (s * 2 ^ 31 + a % 2 ^ 31))

unfoldable pub negative : ℕ → Answer
negative a = number a (with_sign (1 - sign a) a)

-- n units as a whole number of ones, the fraction dropped, or made one more if up is 1.
unfoldable pub ones : ℕ → ℕ → ℕ
ones up n = cond (up == 0) (n / one) ((n + (one - 1)) / one)

-- "of integer type unless the operand is a floating-point number greater than or equal to 2 ^ 23 in magnitude" (2 ^ 173 units)
unfoldable pub whole_near : ℕ → ℕ → Answer
unfolding ones
whole_near up a = cond (nat_lt (units a) (2 ^ 173)) (integer (sign a) (ones up (units a))) (Ok a)

-- "the greatest integer not larger": a negative number's magnitude goes up.
unfoldable pub floor : ℕ → Answer
floor a = number a (whole_near (sign a) a)

-- "the least integer not smaller"
unfoldable pub ceiling : ℕ → Answer
ceiling a = number a (whole_near (1 - sign a) a)

unfoldable pub magnitude_of : ℕ → Answer
magnitude_of a = number a (with_sign 0 a)

-- "one minus the operand"
abbrev pub not_truth : Truth → Answer
not_truth T.Character = type_error
not_truth T.Other = domain_error
not_truth (T.Value p) = Ok (bit (not p))

unfoldable pub not_of : ℕ → Answer
not_of a = not_truth (truth_of a)

unfoldable pub test_number : ℕ → Answer
test_number a = Ok (bit (not (is_character a)))

-- A character gives its code, a whole number from 0 to 255 the character of that code.
abbrev pub character_of : Bool → ℕ → Answer
character_of true n = domain_error
character_of false n = cond (nat_lt n (2 ^ 8)) (Ok (character_word n)) domain_error

abbrev pub converted : ℕ → Whole → Answer
converted a W.Character = Ok (integer_word 0 (character_code a))
converted a W.Fraction = domain_error
converted a (W.Number negative n) = character_of negative n

unfoldable pub convert : ℕ → Answer
convert a = converted a (whole_of a)

-- ---- of two operands

-- The sum of the magnitudes n and m with the signs s and t: its sign and its magnitude.
unfoldable pub sum_sign : ℕ → ℕ → ℕ → ℕ → ℕ
sum_sign s n t m = cond (s == t) s (cond (nat_lt n m) t s)

unfoldable pub sum_size : ℕ → ℕ → ℕ → ℕ → ℕ
sum_size s n t m = cond (s == t) (n + m) (cond (nat_lt n m) (m - n) (n - m))

unfoldable pub plus : Bool → ℕ → ℕ → ℕ → ℕ → Answer
unfolding result sum_sign sum_size
plus floating s n t m = result floating (sum_sign s n t m) (sum_size s n t m) 1

unfoldable pub sum : ℕ → ℕ → Answer
sum a b = numbers a b (plus (one_float a b) (sign a) (units a) (sign b) (units b))

-- Of two numbers: the sum of a and of b with the other sign.
unfoldable pub minus : ℕ → ℕ → Answer
minus a b = plus (one_float a b) (sign a) (units a) (1 - sign b) (units b)

unfoldable pub difference : ℕ → ℕ → Answer
difference a b = numbers a b (minus a b)

abbrev pub product_sign : ℕ → ℕ → ℕ
product_sign a b = (sign a + sign b) % 2

unfoldable pub times : ℕ → ℕ → Answer
times a b = result (one_float a b) (product_sign a b) (units a * units b) one

unfoldable pub product : ℕ → ℕ → Answer
product a b = numbers a b (times a b)

-- "(8,4) -- Zero divisor if the second operand is zero"; the result is a float, or integer 0.
unfoldable pub ratio_of : ℕ → ℕ → Answer
ratio_of a b = cond (units b == 0) zero_divisor (rounded (product_sign a b) (units a * one) (units b))

unfoldable pub quotient : ℕ → ℕ → Answer
quotient a b = numbers a b (ratio_of a b)

-- AND and OR of what the operands are read as.
abbrev pub logical : (Bool → Bool → Bool) → Truth → Truth → Answer
logical f T.Character q = type_error
logical f T.Other T.Character = type_error
logical f T.Other T.Other = domain_error
logical f T.Other (T.Value q) = domain_error
logical f (T.Value p) T.Character = type_error
logical f (T.Value p) T.Other = domain_error
logical f (T.Value p) (T.Value q) = Ok (bit (f p q))

unfoldable pub logical_product : ℕ → ℕ → Answer
logical_product a b = logical ◌&&◌ (truth_of a) (truth_of b)

unfoldable pub logical_sum : ℕ → ℕ → Answer
logical_sum a b = logical ◌||◌ (truth_of a) (truth_of b)

-- Of two numbers, by their exact values: LESS traps for a character alone, EQUAL never.
unfoldable pub less : ℕ → ℕ → Answer
less a b = numbers a b (Ok (bit (is_below a b)))

-- "A character scalar is equal only to another character scalar possessing the same character code."
unfoldable pub equal : ℕ → ℕ → Answer
equal a b =
    cond (is_character a) (Ok (bit (is_character b && character_code a == character_code b)))
    (cond (is_character b) (Ok 0) (Ok (bit (is_equal a b))))

-- ---- all of them

abbrev pub monadic_of : Monadic → ℕ → Answer
monadic_of M.Identity a = identity a
monadic_of M.Negative a = negative a
monadic_of M.Floor a = floor a
monadic_of M.Ceiling a = ceiling a
monadic_of M.Magnitude a = magnitude_of a
monadic_of M.Not a = not_of a
monadic_of M.TestNumber a = test_number a
monadic_of M.Convert a = convert a

abbrev pub dyadic_of : Dyadic → ℕ → ℕ → Answer
dyadic_of D.Sum a b = sum a b
dyadic_of D.Difference a b = difference a b
dyadic_of D.Product a b = product a b
dyadic_of D.Quotient a b = quotient a b
dyadic_of D.LogicalProduct a b = logical_product a b
dyadic_of D.LogicalSum a b = logical_sum a b
dyadic_of D.Less a b = less a b
dyadic_of D.Equal a b = equal a b
