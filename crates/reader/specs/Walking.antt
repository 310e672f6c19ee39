-- Walking one function's code: document 01's "A reader on a lent procedure segment walks one function's code". What is decoded at
-- a place is `instruction_at` of instruction/specs/Decoding; code is `code_of` of procedure/specs/Headers.
-- A reader must believe: a reader moves to the end of the instruction that it found and stays at a trap, and a walk ends with the code
-- or with the first trap. Assumes nothing.
use Rattle.std.specs.Prelude.{ℕ, zero, suc, cond, List, [], ◌∷◌, length, ltb, Result, Ok, Err}
use Rattle.std.specs.Borrow.{Bor}
use Rattle.descriptor.specs.declared.address.CodeAddress.{CodeAddress}
use Rattle.procedure.specs.Headers.{code_start}
use Rattle.trap.specs.declared.Trap.{Trap}
use Rattle.instruction.specs.declared.Decoded.{Decoded}
use Rattle.instruction.specs.Reading.{code_address}
use Rattle.instruction.specs.Decoding.{instruction_at}
use Rattle.reader.specs.declared.Reader.{Reader}

-- A reader at the first instruction.
abbrev pub at_start : Bor (List ℕ) → Reader
at_start code = record { code = code; place = code_address code_start }

-- What is done with an instruction's end. A trap has none.
abbrev pub with_end : {A : Type 0} → Result Decoded Trap → A → (CodeAddress → A) → A
with_end (Ok d) none f = f d.next
with_end (Err trap) none f = none

-- The place after what was found at a place.
abbrev pub place_after : CodeAddress → Result Decoded Trap → CodeAddress
place_after place found = with_end found place (λ end. end)

-- What a reader finds where it stands.
abbrev pub found_by : Reader → Result Decoded Trap
found_by r = instruction_at r.code.now r.place.0

-- Reading once: what is found, and the reader after it.
abbrev pub read_once : Reader → Result Decoded Trap × Reader
read_once r = (found_by r, record { code = r.code; place = place_after r.place (found_by r) })

-- A walk from a place, of so many steps at most: what is found there, then what is found from its end on.
unfoldable pub walk_in : ℕ → List ℕ → CodeAddress → List (CodeAddress × Result Decoded Trap)
walk_in zero code place = []
walk_in (suc steps) code place =
    cond (ltb place.0 (length code))
    ((place, instruction_at code place.0)
    ∷ with_end (instruction_at code place.0) [] (λ end. walk_in steps code end))
    []

-- An instruction has a byte at least, so a walk has no more steps than the code has bytes.
abbrev pub walk : List ℕ → CodeAddress → List (CodeAddress × Result Decoded Trap)
walk code place = walk_in (length code) code place

-- The walk of a reader from where it stands.
abbrev pub walk_of : Reader → List (CodeAddress × Result Decoded Trap)
walk_of r = walk r.code.now r.place
