-- What the program writes for a line: nothing, or the bytes of a record that is read back, whatever stands before and after it.
-- Contracts of the program cite it. That the record is the one which the line says is not said here. Assumes nothing.
use Rattle.std.specs.Prelude.{ℕ, ◌+◌, ◌*◌, ◌≤◌, ◌≡◌, List, ◌++◌, length, take, Result, Ok, Err}
use Rattle.descriptor.specs.Fields.{integer_limit}
use Rattle.imports.specs.Records as file
use Rattle.imports.specs.Records.{element_limit, number_limit, found, record_at}
use Rattle.imports.specs.Encoding.{encode_record, AtMost, Writable}
use Rattle.write_imports.specs.declared.wrong.Refused.{Refused}
use Rattle.write_imports.specs.declared.wrong.Wrong.{Wrong}
use Rattle.write_imports.specs.declared.numbers.Limit.{Limit}
use Rattle.write_imports.specs.declared.numbers.Limit.TheVariants as limit

abbrev pub limit_of : Limit → ℕ
limit_of limit.Number = number_limit
limit_of limit.Element = integer_limit

-- A number that was read is no greater than its limit, and so are several.
abbrev pub Below : ℕ → Result ℕ Wrong → Type 0
Below most (Ok n) = n ≤ most
Below most (Err wrong) = Unit {0}

abbrev pub Holds : ℕ → Result ℕ Refused → List ℕ → Type 0
Holds most (Ok n) out = (n ≤ length out) × AtMost most (take n out)
Holds most (Err refused) out = Unit {0}

-- Four bytes for each number of the longest record.
abbrev pub room_out : ℕ
room_out = 4 * (3 + 15 + element_limit)

pub record Room (lengths ravel out : List ℕ) : Type 0 where
  pub ranks : length lengths ≡ 15
  pub elements : length ravel ≡ element_limit
  pub bytes : room_out ≤ length out

-- All but that the elements are as many as the product of the lengths.
pub record Short (global : ℕ) (lengths ravel : List ℕ) : Type 0 where
  pub address : global ≤ number_limit
  pub rank : length lengths ≤ 15
  pub lengths_fit : AtMost number_limit lengths
  pub few : length ravel ≤ element_limit
  pub integers : AtMost integer_limit ravel

-- The first n bytes are those of a record that can be written.
pub record Encoded (n : ℕ) (out : List ℕ) : Type 0 where
  pub written : file.Record
  pub writable : Writable written
  pub bytes : take n out ≡ encode_record written
  pub within : n ≤ length out

abbrev pub Writes : Result ℕ Refused → List ℕ → Type 0
Writes (Ok n) out = Encoded n out
Writes (Err refused) out = Unit {0}

-- Such bytes are read as that record, wherever they stand in a file. Proved in proofs/Reading.
abbrev pub ReadBack : Type 0
ReadBack =
    (n : ℕ) (out : List ℕ) (e : Encoded n out) (before after : List ℕ)
    → record_at (before ++ (take n out ++ after)) (length before) ≡ found e.written (length before + n)
