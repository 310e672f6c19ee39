-- The records of a file of imports. Document 02, paper 1: "Kind 0 loads: global address, rank, lengths, then elements as integers.
-- Kind 1 runs: a step count"; bad are "a bad or cut number, an unknown kind, rank above 15, over 16,384 elements, an element above
-- 8,388,607, or a file that ends inside a record"; decision 82. Assumes nothing.
use Rattle.std.specs.Prelude.{ℕ, zero, suc, ◌^◌, ◌-◌, cond, List, ltb, eqb, length}
use Rattle.descriptor.specs.Fields.{integer_limit}
use Rattle.segment.specs.Blocks.{product}
use Rattle.imports.specs.Numbers.{number_at, if_number, several_at, if_numbers}

pub data Record : Type 0 where
  -- a global's address, the lengths, and the elements: the integer n is the word n
  load : ℕ → List ℕ → List ℕ → Record
  -- a step count
  run : ℕ → Record

-- A record and the place after it.
pub data FoundRecord : Type 0 where
  found : Record → ℕ → FoundRecord
  bad : FoundRecord

-- The most elements, and the greatest number that can be written.
abbrev pub element_limit : ℕ
element_limit = 16384

abbrev pub number_limit : ℕ
number_limit = 2 ^ 28 - 1

-- So many elements as the exact product of the lengths, one where there is no length.
unfoldable pub imported_elements : List ℕ → ℕ → ℕ → List ℕ → FoundRecord
imported_elements file place global lengths =
    cond (ltb element_limit (product lengths)) bad
    (if_numbers (several_at integer_limit (product lengths) file place) bad (λ ravel next. found (load global lengths ravel) next))

-- A length of any size: load itself judges it.
unfoldable pub imported_lengths : List ℕ → ℕ → ℕ → ℕ → FoundRecord
imported_lengths file place global rank =
    cond (ltb 15 rank) bad
    (if_numbers (several_at number_limit rank file place) bad (λ lengths next. imported_elements file next global lengths))

unfoldable pub imported_load : List ℕ → ℕ → FoundRecord
imported_load file place =
    if_number (number_at file place) bad (λ global next. if_number (number_at file next) bad (λ rank after. imported_lengths file after global rank))

unfoldable pub imported_run : List ℕ → ℕ → FoundRecord
imported_run file place = if_number (number_at file place) bad (λ budget next. found (run budget) next)

abbrev pub kind_at : List ℕ → ℕ → ℕ → FoundRecord
kind_at file next kind = cond (eqb kind 0) (imported_load file next) (cond (eqb kind 1) (imported_run file next) bad)

unfoldable pub record_at : List ℕ → ℕ → FoundRecord
record_at file place = if_number (number_at file place) bad (λ kind next. kind_at file next kind)

-- ---- the file

-- Records one after the other, each with the place of its first byte, up to the end or to what is no record.
pub data Records : Type 0 where
  ends : Records
  malformed : ℕ → Records
  entry : ℕ → Record → Records → Records

abbrev pub continued : ℕ → FoundRecord → (ℕ → Records) → Records
continued place (found r next) rest = entry place r (rest next)
continued place bad rest = malformed place

-- The number falls with each record: a record has a byte or more.
unfoldable pub records_up_to : ℕ → List ℕ → ℕ → Records
records_up_to zero file place = ends
records_up_to (suc left) file place =
    cond (ltb place (length file)) (continued place (record_at file place) (λ next. records_up_to left file next)) ends

-- The records from a place on.
unfoldable pub records_from : List ℕ → ℕ → Records
records_from file place = records_up_to (length file - place) file place

abbrev pub records_of : List ℕ → Records
records_of file = records_from file 0
