-- The auditor's question as one computation: a list is loaded into a global and copied to another, which shares its block; the
-- last element of the copy is written; both are looked at. Assumes nothing.
use Rattle.std.specs.Prelude.{ℕ, ◌≡◌, List, [], ◌∷◌, Ok}
use Rattle.descriptor.specs.Kinds.{segment}
use Rattle.segment.specs.Blocks.{count_at}
use Rattle.segment.specs.Parts.{shape_part, elements_part}
use Rattle.manual.specs.Program.{Program, under_manual}
use Rattle.storage_sheet.specs.Sheet.{sheet_with}
use Rattle.effects.specs.declared.Ran.TheVariants.{Done}
use Rattle.operations.specs.declared.Looked.TheVariants.{Array}
use Rattle.operations.specs.Run.{Ended, ran}
use Rattle.operations.specs.Load.{loaded}
use Rattle.operations.specs.Look.{looked}
use Rattle.audit.specs.Table.{coded, laid, sheet_beside}

-- Global 8 is pushed and assigned to global 9; 0 and the subscript 2 are pushed, global 9 is assigned indexed, and the result eaten.
abbrev pub story_code : List ℕ
story_code = 0xD0 ∷ 0x08 ∷ 0x91 ∷ 0xD0 ∷ 0x09 ∷ 0x40 ∷ 0x00 ∷ 0x40 ∷ 0x02 ∷ 0x81 ∷ 0xD0 ∷ 0x09 ∷ 0xA1 ∷ []

abbrev pub story_program : Program
story_program = under_manual (coded story_code) (coded story_code)

abbrev pub with_list : List ℕ
with_list = loaded (laid story_code) (coded story_code) (coded story_code) 8 (3 ∷ []) (10 ∷ 20 ∷ 30 ∷ [])

abbrev pub with_copy : Ended
with_copy = ran with_list story_program 2

abbrev pub written : Ended
written = ran with_copy.words story_program 4

-- A look at a global tells a vector of three.
pub record TellsVector (s : List ℕ) (g block a b c : ℕ) : Type 0 where
  pub seen : looked s (coded story_code) (coded story_code) g ≡ Ok (Array (segment block))
  pub shape : shape_part s block ≡ 3 ∷ []
  pub ravel : elements_part s block ≡ a ∷ b ∷ c ∷ []

pub record Story : Type 0 where
  pub copies : with_copy.answer ≡ Ok (Done 2)
  -- one block, which two cells point to
  pub list : TellsVector with_copy.words 8 27 10 20 30
  pub copy : TellsVector with_copy.words 9 27 10 20 30
  pub count : count_at with_copy.words 27 ≡ 2
  -- counted once in the sheet
  pub sheet_shared : sheet_beside story_code with_copy.words ≡ Ok (sheet_with 6 0 15 3 24)
  pub writes : written.answer ≡ Ok (Done 4)
  -- the copy has a block of its own now, and the list is as it was
  pub list_after : TellsVector written.words 8 27 10 20 30
  pub copy_after : TellsVector written.words 9 21 10 20 0
  pub sheet_after : sheet_beside story_code written.words ≡ Ok (sheet_with 12 0 9 3 24)
