-- The value of a scalar, document 01's "Descriptors": its sign is `sign`, and its magnitude is put over whole numbers, as
-- under "Meanings fixed here": every float times 2 ^ 150 is whole, so a magnitude is a number of units of 2 ^ -150.
-- A reader must believe: `units` and `character_code` are the document's values. Assumes nothing.
-- A word that is no scalar has a value too: with bit 30 clear it is a character by its type 1, and else an integer.
use Rattle.std.specs.Prelude.{ℕ, ◌+◌, ◌*◌, ◌%◌, ◌^◌, Bool, cond, ◌||◌}
use Rattle.descriptor.specs.Fields.{is_float, exponent, fraction, magnitude}

-- One is 2 ^ 150 units.
abbrev pub one : ℕ
one = 2 ^ 150

-- A float is (1 + f / 2 ^ 22) * 2 ^ (e - 128), which is (2 ^ 22 + f) * 2 ^ e units; an integer is its magnitude.
unfoldable pub units : ℕ → ℕ
units w = cond (is_float w) ((2 ^ 22 + fraction w) * 2 ^ exponent w) (magnitude w * one)

-- At least one operand is a float.
abbrev pub one_float : ℕ → ℕ → Bool
one_float a b = is_float a || is_float b

-- A character's code, bits 7–0.
abbrev pub character_code : ℕ → ℕ
character_code w = w % 2 ^ 8
