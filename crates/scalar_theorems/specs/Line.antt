-- The number line in units of 2 ^ -150, moved up so that every number's place is a natural number.
-- A reader must believe: order and whole numbers are what they are on this line. Assumes nothing.
use Rattle.std.specs.Prelude.{ℕ, ◌+◌, ◌-◌, ◌%◌, ◌^◌, ◌≡◌, cond, eqb}
use Rattle.descriptor.specs.Fields.{sign}
use Rattle.scalar.specs.Value.{one, units}

-- The place of zero: 2 ^ 128 in units, which is a whole number and more than any float.
abbrev pub middle : ℕ
middle = 2 ^ 278

-- The place of a number.
unfoldable pub line_place : ℕ → ℕ
line_place w = cond (eqb (sign w) 0) (middle + units w) (middle - units w)

-- A place of a whole number.
abbrev pub IsWhole : ℕ → Type 0
IsWhole p = p % one ≡ 0

-- The distance of two numbers.
abbrev pub gap : ℕ → ℕ → ℕ
gap a b = (a - b) + (b - a)
