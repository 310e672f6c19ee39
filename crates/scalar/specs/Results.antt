-- What a scalar operator answers, from the exact result: document 01, "Arithmetic is exact .., then rounded to nearest,
-- ties to even; underflow is judged before rounding, overflow after. Zero is always integer 0". A result is a sign, 0 or
-- 1, and a magnitude num / den in units of 2 ^ -150. The traps are those of the manual's appendix.
-- A reader must believe: the limits, and that `closest` and `size` are the nearest whole number and the count of binary
-- digits (the theorems `Rounding` say what `rounded` is without them). Assumes nothing.
use Rattle.std.specs.Prelude.{ℕ, ◌+◌, ◌-◌, ◌*◌, ◌/◌, ◌^◌, Bool, cond, ◌==◌, nat_lt, Result, Ok, Err}
use Rattle.std.specs.Float.Ieee.{size}
use Rattle.std.specs.Float.Ieee.Nearest.{closest}
use Rattle.descriptor.specs.Fields.{integer_limit, integer_word, float_word}
use Rattle.trap.specs.declared.Trap.{Trap}
use Rattle.trap.specs.Trap.{trap_of}
use Rattle.scalar.specs.Value.{one}

-- A scalar's word, or a trap.
abbrev pub Answer : Type 0
Answer = Result ℕ Trap

abbrev pub type_error : Answer
type_error = Err (trap_of 7 0)

abbrev pub integer_overflow : Answer
integer_overflow = Err (trap_of 8 1)

abbrev pub underflow : Answer
underflow = Err (trap_of 8 2)

abbrev pub overflow : Answer
overflow = Err (trap_of 8 3)

abbrev pub zero_divisor : Answer
zero_divisor = Err (trap_of 8 4)

abbrev pub domain_error : Answer
domain_error = Err (trap_of 8 5)

-- The integer of magnitude n, which is at most the integer limit.
unfoldable pub integer : ℕ → ℕ → Answer
integer s n = cond (nat_lt n (integer_limit + 1)) (Ok (integer_word s n)) integer_overflow

-- The float of m * 2 ^ e units, for an m of 23 digits: below 2 ^ 128, which is 2 ^ 278 units. Rounding may have made m
-- 2 ^ 23; the fraction's carry then makes the exponent one more and the fraction 0.
unfoldable pub float : ℕ → ℕ → ℕ → Answer
float s m e = cond (nat_lt (m * 2 ^ e) (2 ^ 278)) (Ok (float_word s e (m - 2 ^ 22))) overflow

-- The float nearest to num / den units, a tie to the even one. Underflow is below 2 ^ -128, which is 2 ^ 22 units. A float
-- has 23 digits, so it is a whole number of 2 ^ e units, where e is how many more digits the whole part has.
unfoldable pub rounded : ℕ → ℕ → ℕ → Answer
unfolding float
rounded s num den =
    let e = size (num / den) - 23 in
    cond (num == 0) (Ok 0) (cond (nat_lt num (2 ^ 22 * den)) underflow (float s (closest num (den * 2 ^ e)) e))

-- "of integer type if both operands are of integer type, or if the result is zero. In every other case .. floating-point"
unfoldable pub result : Bool → ℕ → ℕ → ℕ → Answer
unfolding integer rounded
result floating s num den = cond floating (rounded s num den) (integer s (num / den / one))
