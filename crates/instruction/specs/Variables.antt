-- The variable of an instruction: document 01's three loads, whose forms a MEMREF's address takes too.
-- A reader must believe: which bits are the address, and that a local lies 64 − v or 4,096 − v words below LBASE.
-- Assumes nothing.
use Rattle.std.specs.Prelude.{ℕ, ◌+◌, ◌-◌, ◌*◌, ◌%◌, ◌^◌, List, Result, Ok, Err}
use Rattle.trap.specs.declared.Trap.{Trap}
use Rattle.trap.specs.Trap.{trap_of}
use Rattle.instruction.specs.declared.Address.{Address}
use Rattle.instruction.specs.declared.Address.TheVariants.{Local, Global}
use Rattle.instruction.specs.declared.family.Family.{Family}
use Rattle.instruction.specs.declared.family.Family.TheVariants.{ShortLocal, ShortConst, GenScalar, MemRef, Etc, LongLocal, LongGlobal, Index, Unassigned}
use Rattle.instruction.specs.declared.cursor.Cursor.{Cursor}
use Rattle.instruction.specs.Families.{family_of}
use Rattle.instruction.specs.Reading.{fetch_byte, with_read}

-- SHORTLOCAL: six bits, v − 64.
abbrev pub short_local : ℕ → Address
short_local first = Local (64 - first % 2 ^ 6)

-- LONGLOCAL: twelve bits of two bytes, v − 4,096.
abbrev pub long_local : ℕ → Address
long_local half = Local (4096 - half % 2 ^ 12)

-- LONGGLOBAL: twelve bits.
abbrev pub long_global : ℕ → Address
long_global half = Global (record { 0 = half % 2 ^ 12 })

-- The address whose first byte is `first`, of that family; the cursor stands after that byte.
unfoldable pub address_in : List ℕ → Cursor → ℕ → Family → Result (Address × Cursor) Trap
address_in code c first ShortLocal = Ok (short_local first, c)
address_in code c first LongLocal =
    with_read (fetch_byte code c) (Err (trap_of 3 1)) (λ second next. Ok (long_local (first * 2 ^ 8 + second), next))
address_in code c first LongGlobal =
    with_read (fetch_byte code c) (Err (trap_of 3 1)) (λ second next. Ok (long_global (first * 2 ^ 8 + second), next))
address_in code c first ShortConst = Err (trap_of 3 7)
address_in code c first GenScalar = Err (trap_of 3 7)
address_in code c first MemRef = Err (trap_of 3 7)
address_in code c first Etc = Err (trap_of 3 7)
address_in code c first Index = Err (trap_of 3 7)
address_in code c first Unassigned = Err (trap_of 3 7)

-- A MEMREF's address.
unfoldable pub address_at : List ℕ → Cursor → Result (Address × Cursor) Trap
address_at code c = with_read (fetch_byte code c) (Err (trap_of 3 1)) (λ first next. address_in code next first (family_of first))

abbrev pub with_address : {A : Type 0} → Result (Address × Cursor) Trap → (Trap → A) → (Address → Cursor → A) → A
with_address (Ok found) trap f = f found.0 found.1
with_address (Err t) trap f = trap t
