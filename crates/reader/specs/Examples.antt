-- Two walks, to the end of the code and to a trap. Nothing rests on this file. Assumes nothing.
use Rattle.std.specs.Prelude.{◌≡◌, refl, false, List, [], ◌∷◌, ◌++◌, ℕ, replicate, Result, Err}
use Rattle.descriptor.specs.declared.address.CodeAddress.{CodeAddress}
use Rattle.instruction.specs.declared.ControlOperation.TheVariants.{Return}
use Rattle.instruction.specs.declared.Instruction.TheVariants as I
use Rattle.trap.specs.declared.Trap.{Trap}
use Rattle.trap.specs.Trap.{trap_of}
use Rattle.instruction.specs.declared.Decoded.{Decoded}
use Rattle.instruction.specs.Families.{family_in, family_of}
use Rattle.instruction.specs.Reading.{code_address, fetch_byte}
use Rattle.instruction.specs.Tables.{etc_of}
use Rattle.instruction.specs.Decoding.{done, short_constant_at, etc_at, family_at, instruction_at}
use Rattle.reader.specs.Walking.{walk_in, walk}

-- The walk of a function with that code.
abbrev whole : List ℕ → List (CodeAddress × Result Decoded Trap)
whole code = walk (replicate 8 0 ++ code) (code_address 8)

-- SHORTCONST 5, RETURN.
to_the_end : whole (0x40 ∷ 0x05 ∷ 0xB0 ∷ [])
    ≡ (code_address 8, done (I.ShortConstant false 5) (code_address 10))
    ∷ (code_address 10, done (I.Control Return) (code_address 11))
    ∷ []
unfolding walk_in instruction_at fetch_byte family_of family_in family_at short_constant_at etc_of etc_at
to_the_end = refl

-- RETURN, a byte that starts no instruction, RETURN.
to-a-trap : whole (0xB0 ∷ 0xFF ∷ 0xB0 ∷ [])
    ≡ (code_address 8, done (I.Control Return) (code_address 9)) ∷ (code_address 9, Err (trap_of 3 11)) ∷ []
unfolding walk_in instruction_at fetch_byte family_of family_in family_at etc_of etc_at
to-a-trap = refl
