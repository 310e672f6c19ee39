-- Instructions as the definitions decode them: M10's constants of document 01 and one of each form with a field; and lengths.
-- Nothing rests on this file. Assumes nothing.
use Rattle.std.specs.Prelude.{◌≡◌, refl, true, false, List, [], ◌∷◌, ◌++◌, ℕ, replicate, Result, Err}
use Rattle.trap.specs.declared.Trap.{Trap}
use Rattle.trap.specs.Trap.{trap_of}
use Rattle.operator.specs.Table.{operator_of}
use Rattle.instruction.specs.declared.Address.TheVariants.{Local, Global}
use Rattle.instruction.specs.declared.MemoryOperation.TheVariants.{AssignIndexed}
use Rattle.instruction.specs.declared.Instruction.TheVariants as I
use Rattle.instruction.specs.declared.Decoded.{Decoded}
use Rattle.instruction.specs.declared.length.Length.TheVariants.{Fixed, ByAddress, ByCount, NoInstruction}
use Rattle.instruction.specs.Families.{family_in, family_of}
use Rattle.instruction.specs.Reading.{code_address, fetch_byte, fetch_half, fetch_words}
use Rattle.instruction.specs.Variables.{address_in, address_at}
use Rattle.instruction.specs.Tables.{memory_of, etc_of}
use Rattle.instruction.specs.Lengths.{length_by}
use Rattle.instruction.specs.Decoding.{done, load_at, short_constant_at, memory_at, constant_vector_at, call_at, etc_at, family_at, instruction_at}

-- The first instruction of a function with that code.
abbrev first : List ℕ → Result Decoded Trap
first code = instruction_at (replicate 8 0 ++ code) 8

five : first (0x40 ∷ 0x05 ∷ []) ≡ done (I.ShortConstant false 5) (code_address 10)
unfolding instruction_at fetch_byte family_of family_in family_at short_constant_at
five = refl

minus-five : first (0x50 ∷ 0x05 ∷ []) ≡ done (I.ShortConstant true 5) (code_address 10)
unfolding instruction_at fetch_byte family_of family_in family_at short_constant_at
minus-five = refl

last-local : first (0x3F ∷ []) ≡ done (I.Load (Local 1)) (code_address 9)
unfolding instruction_at fetch_byte family_of family_in family_at load_at address_in
last-local = refl

far-local : first (0xC0 ∷ 0x00 ∷ []) ≡ done (I.Load (Local 4096)) (code_address 10)
unfolding instruction_at fetch_byte family_of family_in family_at load_at address_in
far-local = refl

-- A suboperation is judged before the address: (3,8) though the address is missing, (3,1) and (3,7) after a defined one.
no-suboperation : first (0x80 ∷ []) ≡ Err (trap_of 3 8)
unfolding instruction_at fetch_byte family_of family_in family_at memory_of memory_at
no-suboperation = refl

no_address : first (0x90 ∷ []) ≡ Err (trap_of 3 1)
unfolding instruction_at fetch_byte family_of family_in family_at memory_of memory_at address_at
no_address = refl

bad-address : first (0x90 ∷ 0x40 ∷ []) ≡ Err (trap_of 3 7)
unfolding instruction_at fetch_byte family_of family_in family_at memory_of memory_at address_at address_in
bad-address = refl

indexed-global : first (0x83 ∷ 0xD0 ∷ 0x08 ∷ []) ≡ done (I.Memory (AssignIndexed 3) (Global (record { 0 = 8 }))) (code_address 11)
unfolding instruction_at fetch_byte family_of family_in family_at memory_of memory_at address_at address_in
indexed-global = refl

-- CALL: NARGS 2, P set, function 5.
alternate-call : first (0xB1 ∷ 0x28 ∷ 0x05 ∷ []) ≡ done (I.Call 2 true 5) (code_address 11)
unfolding instruction_at fetch_byte fetch_half family_of family_in family_at etc_of etc_at call_at
alternate-call = refl

-- CONSTANT_VECTOR: its word starts at the next word boundary; with no words the next place is that boundary too.
one_word : first (0xAB ∷ 0x01 ∷ 0xFF ∷ 0xFF ∷ 0x00 ∷ 0x00 ∷ 0x00 ∷ 0x07 ∷ []) ≡ done (I.ConstantVector 1 (code_address 12)) (code_address 16)
unfolding instruction_at fetch_byte fetch_words family_of family_in family_at etc_of etc_at constant_vector_at
one_word = refl

no_words : first (0xAB ∷ 0x00 ∷ 0xFF ∷ 0xFF ∷ []) ≡ done (I.ConstantVector 0 (code_address 12)) (code_address 12)
unfolding instruction_at fetch_byte fetch_words family_of family_in family_at etc_of etc_at constant_vector_at
no_words = refl

cut_word : first (0xAB ∷ 0x01 ∷ 0xFF ∷ 0xFF ∷ 0x00 ∷ 0x00 ∷ 0x00 ∷ []) ≡ Err (trap_of 3 1)
unfolding instruction_at fetch_byte fetch_words family_of family_in family_at etc_of etc_at constant_vector_at
cut_word = refl

-- ---- lengths by the first byte

-- The last of one family's bytes, and the first of the next.
ends-locals : (length_by 0x3F ≡ Fixed 1) × (length_by 0x40 ≡ Fixed 2)
unfolding length_by family_of family_in
ends-locals = (refl, refl)

-- SHAPE, CONSTANT_SCALAR, CONSTANT_VECTOR, GO, CALL.
etc-lengths : (length_by 0xA5 ≡ Fixed 1) × (length_by 0xAA ≡ Fixed 5) × (length_by 0xAB ≡ ByCount) × (length_by 0xAD ≡ Fixed 3) × (length_by 0xB1 ≡ Fixed 3)
unfolding length_by family_of family_in etc_of
etc-lengths = (refl, refl, refl, refl, refl)

-- A MEMREF, and one with no suboperation; GENSCALAR's last operator, and what comes after it.
judged-lengths : (length_by 0x93 ≡ ByAddress) × (length_by 0x80 ≡ NoInstruction) × (length_by 0x6F ≡ Fixed 1) × (length_by 0x70 ≡ NoInstruction)
unfolding length_by family_of family_in memory_of operator_of
judged-lengths = (refl, refl, refl, refl)
