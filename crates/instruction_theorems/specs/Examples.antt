-- Lengths beside what is decoded: CONSTANT_SCALAR whole and cut, a MEMREF by both forms of its address, CONSTANT_VECTOR, a byte with which
-- nothing starts; and bytes at the ends of ranges. Nothing rests on this file. Assumes nothing.
use Rattle.std.specs.Prelude.{◌≡◌, refl, [], ◌∷◌}
use Rattle.instruction.specs.Families.{first_bytes, family_in, family_of}
use Rattle.instruction.specs.Reading.{fetch_byte, fetch_half, fetch_word, fetch_words}
use Rattle.instruction.specs.Variables.{address_in, address_at}
use Rattle.instruction.specs.Tables.{memory_of, etc_of}
use Rattle.instruction.specs.Decoding.{memory_at, constant_scalar_at, constant_vector_at, etc_at, family_at, instruction_at}
use Rattle.instruction_theorems.specs.FirstBytes.{holding, first_end}

-- Five bytes from byte 8 on; of four, the trap.
whole-constant : (first_end (0xAA ∷ 1 ∷ 2 ∷ 3 ∷ 4 ∷ []) ≡ 13) × (first_end (0xAA ∷ 1 ∷ 2 ∷ 3 ∷ []) ≡ 0)
unfolding instruction_at fetch_byte fetch_half fetch_word family_of family_in family_at etc_of etc_at constant_scalar_at
whole-constant = (refl, refl)

-- ASSIGN to a local by one byte, and to a global by two.
both-addresses : (first_end (0x90 ∷ 0x3F ∷ []) ≡ 10) × (first_end (0x90 ∷ 0xD0 ∷ 0x08 ∷ []) ≡ 11)
unfolding instruction_at fetch_byte family_of family_in family_at memory_of memory_at address_at address_in
both-addresses = (refl, refl)

-- One word, which starts at byte 12.
one_word : first_end (0xAB ∷ 1 ∷ 0 ∷ 0 ∷ 0 ∷ 0 ∷ 0 ∷ 7 ∷ []) ≡ 16
unfolding instruction_at fetch_byte fetch_words family_of family_in family_at etc_of etc_at constant_vector_at
one_word = refl

-- Suboperation 21 of ETC.
none-starts : first_end (0xB5 ∷ 0 ∷ 0 ∷ 0 ∷ 0 ∷ []) ≡ 0
unfolding instruction_at fetch_byte family_of family_in family_at etc_of etc_at
none-starts = refl

-- Ends of ranges, and what is no byte.
at-the-ends : (holding first_bytes 0x3F ≡ 1) × (holding first_bytes 0x40 ≡ 1) × (holding first_bytes 0xFF ≡ 1) × (holding first_bytes 0x100 ≡ 0)
at-the-ends = (refl, refl, refl, refl)
