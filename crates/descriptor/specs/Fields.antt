-- The fields of a descriptor word, as document 01 has them under "Descriptors". Bit 0 is the lowest.
-- A reader must believe: which bits each name stands for. Assumes nothing.
use Rattle.std.specs.Prelude.{ℕ, ◌+◌, ◌*◌, ◌/◌, ◌%◌, ◌^◌, Bool, false, cond, eqb}

-- Bit 31, the sign: 0 or 1 in a word of 32 bits.
abbrev pub sign : ℕ → ℕ
sign w = w / 2 ^ 31

-- Bit 30 set: a float.
abbrev pub is_float : ℕ → Bool
is_float w = eqb (w / 2 ^ 30 % 2) 1

-- A float's exponent, bits 29–22, and fraction, bits 21–0.
abbrev pub exponent : ℕ → ℕ
exponent w = w / 2 ^ 22 % 2 ^ 8

abbrev pub fraction : ℕ → ℕ
fraction w = w % 2 ^ 22

-- The integer limit and the type numbers belong to the descriptor.
abbrev pub integer_limit : ℕ
integer_limit = 8388607

abbrev pub type_integer : ℕ
type_integer = 0

abbrev pub type_character : ℕ
type_character = 1

abbrev pub type_array : ℕ
type_array = 2

abbrev pub type_indirect : ℕ
type_indirect = 3

abbrev pub type_undefined : ℕ
type_undefined = 4

-- Bit 30 clear: the type in bits 29–24, and what is left below it.
abbrev pub type_number : ℕ → ℕ
type_number w = w / 2 ^ 24 % 2 ^ 6

abbrev pub rest : ℕ → ℕ
rest w = w % 2 ^ 24

-- An integer's magnitude, bits 22–0.
abbrev pub magnitude : ℕ → ℕ
magnitude w = w % 2 ^ 23

-- Type 1 with bit 30 clear: a character.
abbrev pub is_character : ℕ → Bool
is_character w = cond (is_float w) false (eqb (type_number w) type_character)

-- Type 2 with the bits above the address clear: an array's word, and the address of its block in bits 15–0.
abbrev pub is_array : ℕ → Bool
is_array w = eqb (w / 2 ^ 16) (type_array * 2 ^ 8)

abbrev pub address : ℕ → ℕ
address w = w % 2 ^ 16

-- The words of each kind, from their parts. No zero is negative.
abbrev pub float_word : ℕ → ℕ → ℕ → ℕ
float_word s e f = s * 2 ^ 31 + 2 ^ 30 + e * 2 ^ 22 + f

abbrev pub integer_word : ℕ → ℕ → ℕ
integer_word s m = cond (eqb m 0) 0 (s * 2 ^ 31 + m)

abbrev pub character_word : ℕ → ℕ
character_word c = type_character * 2 ^ 24 + c

abbrev pub array_word : ℕ → ℕ
array_word a = type_array * 2 ^ 24 + a

abbrev pub local_word : ℕ → ℕ
local_word a = type_indirect * 2 ^ 24 + a

abbrev pub global_word : ℕ → ℕ
global_word a = type_indirect * 2 ^ 24 + 2 ^ 16 + a

abbrev pub undefined_word : ℕ
undefined_word = type_undefined * 2 ^ 24
