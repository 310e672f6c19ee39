-- The order of two numbers by their exact values, as paper 4 of document 02 has it: "LESS and EQUAL compare the exact values
-- of two numbers". A number is a credit less a debit, both in units of 2 ^ -150, and one of them, at least, is 0.
-- A reader must believe: c - d is below c' - d' where c + d' is below c' + d, and equal where they are equal; so nothing is
-- subtracted, nor rounded. Assumes nothing.
use Rattle.std.specs.Prelude.{ℕ, ◌+◌, Bool, cond, ◌==◌, nat_lt}
use Rattle.descriptor.specs.Fields.{sign}
use Rattle.scalar.specs.Value.{units}

abbrev pub credit : ℕ → ℕ
credit w = cond (sign w == 0) (units w) 0

abbrev pub debit : ℕ → ℕ
debit w = cond (sign w == 0) 0 (units w)

-- What the first of two numbers puts on its side of the scales: its credit, and the other's debit.
unfoldable pub side : ℕ → ℕ → ℕ
side a b = credit a + debit b

unfoldable pub is_below : ℕ → ℕ → Bool
unfolding side
is_below a b = nat_lt (side a b) (side b a)

unfoldable pub is_equal : ℕ → ℕ → Bool
unfolding side
is_equal a b = side a b == side b a
