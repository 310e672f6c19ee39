-- How a scalar is read where the manual wants a whole number, or wants zero or one. Each is said once, here.
-- A reader must believe: "integral" and "equal to zero or one" are meant so. Assumes nothing.
use Rattle.std.specs.Prelude.{ℕ, ◌/◌, ◌%◌, ◌^◌, min, true, false, cond, ◌&&◌, ◌==◌, nat_lt}
use Rattle.descriptor.specs.Fields.{sign, is_character}
use Rattle.scalar.specs.Value.{one, units}
use Rattle.scalar.specs.declared.Whole.{Whole}
use Rattle.scalar.specs.declared.Whole.TheVariants as W
use Rattle.scalar.specs.declared.Truth.{Truth}
use Rattle.scalar.specs.declared.Truth.TheVariants as T

-- The whole number of sign s and magnitude n. Zero is not negative. No use reaches 2 ^ 23, so from there on that is given.
abbrev pub whole_number : ℕ → ℕ → Whole
whole_number s n = W.Number (s == 1 && nat_lt 0 n) (min n (2 ^ 23))

-- Integral: a whole number of ones, exactly, an integer or a float. Here of a sign and a number of units.
unfoldable pub whole_units : ℕ → ℕ → Whole
whole_units s n = cond (n % one == 0) (whole_number s (n / one)) W.Fraction

unfoldable pub whole_of : ℕ → Whole
whole_of w = cond (is_character w) W.Character (whole_units (sign w) (units w))

-- Logical: exactly zero or one, an integer or a float.
unfoldable pub truth_units : ℕ → ℕ → Truth
truth_units s n =
    cond (n == 0) (T.Value false)
    (cond (n == one && s == 0) (T.Value true) T.Other)

unfoldable pub truth_of : ℕ → Truth
truth_of w = cond (is_character w) T.Character (truth_units (sign w) (units w))
