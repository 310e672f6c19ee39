-- The directory of a procedure segment, and the functions in it: document 01's "Procedure segment", its first two sentences,
-- with decision 8 of docs/DECISIONS.md. A reader must believe: where an entry stands and which half is which. Assumes nothing.
use Rattle.std.specs.Prelude.{ℕ, ◌*◌, ◌/◌, ◌%◌, ◌^◌, Bool, false, cond, List, ltb, eqb, Option, Some, None}
use Rattle.procedure.specs.declared.header.Header.{Header}
use Rattle.procedure.specs.declared.header.Block.{Block}
use Rattle.procedure.specs.Bytes.{word_at}
use Rattle.procedure.specs.Headers.{header_at, block_at}

-- Directory entries are words, start high and length low, in words.
abbrev pub start_of : List ℕ → ℕ → ℕ
start_of p k = word_at p (4 * k) / 2 ^ 16

abbrev pub length_of : List ℕ → ℕ → ℕ
length_of p k = word_at p (4 * k) % 2 ^ 16

-- Entry 0 is 0 and the number of entries, itself among them.
abbrev pub entries : List ℕ → ℕ
entries p = length_of p 0

-- A function is in its directory when its number is 1 up to the number of entries less 1.
unfoldable pub has_function : List ℕ → ℕ → Bool
has_function p fn = cond (eqb fn 0) false (ltb fn (entries p))

-- P selects the procedure segment: clear the regular one, set the alternate one.
abbrev pub selected : Bool → List ℕ → List ℕ → List ℕ
selected P regular alternate = cond P alternate regular

abbrev pub in_directory : Bool → List ℕ → List ℕ → ℕ → Bool
in_directory P regular alternate fn = has_function (selected P regular alternate) fn

-- What the header of function fn says.
abbrev pub header_of_function : List ℕ → ℕ → Header
header_of_function p fn = header_at p (start_of p fn)

abbrev pub nargs_of : List ℕ → ℕ → ℕ
nargs_of p fn = (header_of_function p fn).nargs

abbrev pub nlocals_of : List ℕ → ℕ → ℕ
nlocals_of p fn = (header_of_function p fn).nlocals

abbrev pub nlines_of : List ℕ → ℕ → ℕ
nlines_of p fn = (header_of_function p fn).nlines

abbrev pub ncode_of : List ℕ → ℕ → ℕ
ncode_of p fn = (header_of_function p fn).ncode

abbrev pub result_of : List ℕ → ℕ → Bool
result_of p fn = (header_of_function p fn).result

unfoldable pub function_of : List ℕ → ℕ → Option Block
function_of p fn = cond (has_function p fn) (Some (block_at p (start_of p fn))) None
