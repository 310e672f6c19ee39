-- A local, a global and a reference to it, the address of two bytes that names the global, and places after instructions. Nothing rests
-- on this file.
-- Assumes nothing.
use Rattle.std.specs.Prelude.{ℕ, ◌≡◌, refl, List, [], ◌∷◌}
use Rattle.descriptor.specs.declared.Target.{Target}
use Rattle.descriptor.specs.declared.Target.TheVariants.{Global}
use Rattle.descriptor.specs.Fields.{global_word}
use Rattle.descriptor.specs.Kinds.{segment, kind_of, integer_kind, unsigned_kind, indirect_kind}
use Rattle.segment.specs.Cells.{value}
use Rattle.instruction.specs.declared.Address.TheVariants as A
use Rattle.instruction.specs.Families.{family_in, family_of}
use Rattle.instruction.specs.Reading.{code_address, cursor_at, fetch_byte}
use Rattle.instruction.specs.Variables.{address_in}
use Rattle.instruction.specs.Tables.{etc_of}
use Rattle.instruction.specs.Lengths.{length_by}
use Rattle.manual.specs.OrTrap.{gives}
use Rattle.manual.specs.Seen.{at}
use Rattle.effects.specs.Seen.{read, seen}
use Rattle.fast_path.specs.Answers.{next_after}
use Rattle.fast_path.specs.Naming.{local_of, variable_at, Stands, Names}

-- Global 8 is the integer 5, global 9 refers to it; the current frame has one variable, word 10, the integer 7.
abbrev small : List ℕ
small = 0xA0002 ∷ 0x10000 ∷ 0 ∷ 0 ∷ 10 ∷ 0 ∷ 0 ∷ 0 ∷ 5 ∷ global_word 8 ∷ 7 ∷ 0 ∷ 0 ∷ []

abbrev five : Target
five = Global (segment 8)

the-local : Stands small ((seen small).local 1 1) (local_of small 1) 10
unfolding seen read kind_of integer_kind
the-local = record { resolves = refl; place = refl }

the-global : variable_at small five ≡ gives (at five (value [] (5 ∷ [])))
unfolding read kind_of integer_kind
the-global = refl

-- The variable that a reference leads to is the one that is found.
the-reference : variable_at small (Global (segment 9)) ≡ gives (at five (value [] (5 ∷ [])))
unfolding read kind_of integer_kind unsigned_kind indirect_kind
the-reference = refl

-- LONGGLOBAL 8.
the-address : Names small 1 (address_in (0xD0 ∷ 0x08 ∷ []) (cursor_at 1) 0xD0 (family_of 0xD0)) 8
unfolding address_in fetch_byte family_of family_in seen read kind_of integer_kind
the-address =
    record {
      address = A.Global (segment 8);
      end = cursor_at 2;
      target = five;
      fetches = refl;
      stands = λ h. λ same. record { resolves = refl; place = refl };
    }

-- SHORTCONST and GO at byte 8, and at the last number that a place can be.
the_places : (next_after (code_address 8) (length_by 0x40) ≡ 10) × (next_after (code_address 8) (length_by 0xAD) ≡ 11) × (next_after (code_address 0xFFFF_FFFF) (length_by 0x40) ≡ 1)
unfolding length_by family_of family_in etc_of
the_places = (refl, refl, refl)
