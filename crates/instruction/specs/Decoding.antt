-- Decoding one instruction: document 01's "First bytes" to "function 11 bits", and of "Meanings fixed here" the fetch and
-- suboperation traps, with decisions 17, 20, 34 and 35 of docs/DECISIONS.md. A suboperation is judged before any byte after the
-- first. A reader must believe: the fields of each instruction and the trap in each case. Assumes nothing.
use Rattle.std.specs.Prelude.{ℕ, ◌+◌, ◌*◌, ◌/◌, ◌%◌, ◌^◌, cond, List, ltb, Option, Some, None, Result, Ok, Err}
use Rattle.trap.specs.declared.Trap.{Trap}
use Rattle.trap.specs.Trap.{trap_of}
use Rattle.descriptor.specs.declared.address.CodeAddress.{CodeAddress}
use Rattle.operator.specs.declared.Operator.{Operator}
use Rattle.operator.specs.Table.{operator_of}
use Rattle.procedure.specs.Headers.{bit_of, code_start}
use Rattle.instruction.specs.declared.Jump.{Jump}
use Rattle.instruction.specs.declared.Instruction.{Instruction}
use Rattle.instruction.specs.declared.Instruction.TheVariants as I
use Rattle.instruction.specs.declared.Decoded.{Decoded}
use Rattle.instruction.specs.declared.MemoryOperation.{MemoryOperation}
use Rattle.instruction.specs.declared.table.EtcSuboperation.{EtcSuboperation}
use Rattle.instruction.specs.declared.table.EtcSuboperation.TheVariants as E
use Rattle.instruction.specs.declared.family.Family.{Family}
use Rattle.instruction.specs.declared.family.Family.TheVariants.{ShortLocal, ShortConst, GenScalar, MemRef, Etc, LongLocal, LongGlobal, Index, Unassigned}
use Rattle.instruction.specs.declared.cursor.Cursor.{Cursor}
use Rattle.instruction.specs.Families.{family_of}
use Rattle.instruction.specs.Reading.{code_address, cursor_at, place_of, fetch_byte, fetch_half, fetch_word, fetch_words, with_read}
use Rattle.instruction.specs.Variables.{address_in, address_at, with_address}
use Rattle.instruction.specs.Tables.{memory_of, etc_of}

-- An instruction, and the place after it.
abbrev pub done : Instruction → CodeAddress → Result Decoded Trap
done i next = Ok (record { instruction = i; next = next })

-- An instruction, and the place where the cursor stands after it.
abbrev pub decoded : Instruction → Cursor → Decoded
decoded i c = record { instruction = i; next = place_of c }

abbrev pub decoded_to : Instruction → Cursor → Result Decoded Trap
decoded_to i c = Ok (decoded i c)

-- SHORTLOCAL, LONGLOCAL and LONGGLOBAL.
unfoldable pub load_at : List ℕ → Cursor → ℕ → Family → Result Decoded Trap
load_at code c first family = with_address (address_in code c first family) Err (λ a next. decoded_to (I.Load a) next)

-- SHORTCONST: sign bit 12, magnitude 11–0 of two bytes.
abbrev pub short_constant_of : ℕ → Instruction
short_constant_of half = I.ShortConstant (bit_of 12 half) (half % 2 ^ 12)

unfoldable pub short_constant_at : List ℕ → Cursor → ℕ → Result Decoded Trap
short_constant_at code c first =
    with_read (fetch_byte code c) (Err (trap_of 3 1)) (λ second next. decoded_to (short_constant_of (first * 2 ^ 8 + second)) next)

-- GENSCALAR: an undefined suboperation is (3,9).
abbrev pub scalar_at : Option Operator → Cursor → Result Decoded Trap
scalar_at (Some o) c = decoded_to (I.Scalar o) c
scalar_at None c = Err (trap_of 3 9)

-- MEMREF: an undefined suboperation is (3,8), whatever the address is.
unfoldable pub memory_at : List ℕ → Cursor → Option MemoryOperation → Result Decoded Trap
memory_at code c (Some o) = with_address (address_at code c) Err (λ a next. decoded_to (I.Memory o a) next)
memory_at code c None = Err (trap_of 3 8)

-- CONSTANT_SCALAR: four bytes.
unfoldable pub constant_scalar_at : List ℕ → Cursor → Result Decoded Trap
constant_scalar_at code c = with_read (fetch_word code c) (Err (trap_of 3 1)) (λ w next. decoded_to (I.ConstantScalar w) next)

-- CONSTANT_VECTOR: a count, and that many words from the next word boundary on.
unfoldable pub constant_vector_at : List ℕ → Cursor → Result Decoded Trap
constant_vector_at code c =
    with_read (fetch_byte code c) (Err (trap_of 3 1))
    (λ count next.
    with_read (fetch_words code next count) (Err (trap_of 3 1))
    (λ first after. decoded_to (I.ConstantVector count (place_of first)) after))

-- GO, GO_TRUE and GO_FALSE: two bytes, a code address.
unfoldable pub jump_at : List ℕ → Cursor → Jump → Result Decoded Trap
jump_at code c jump = with_read (fetch_half code c) (Err (trap_of 3 1)) (λ v next. decoded_to (I.Jump jump (code_address v)) next)

-- CALL: two bytes, NARGS 4 bits, P, function 11 bits.
abbrev pub call_of : ℕ → Instruction
call_of half = I.Call (half / 2 ^ 12) (bit_of 11 half) (half % 2 ^ 11)

unfoldable pub call_at : List ℕ → Cursor → Result Decoded Trap
call_at code c = with_read (fetch_half code c) (Err (trap_of 3 1)) (λ v next. decoded_to (call_of v) next)

-- ETC: an undefined suboperation is (3,11).
unfoldable pub etc_at : List ℕ → Cursor → Option EtcSuboperation → Result Decoded Trap
etc_at code c (Some (E.Stack o)) = decoded_to (I.Stack o) c
etc_at code c (Some (E.Array o)) = decoded_to (I.Array o) c
etc_at code c (Some (E.Control o)) = decoded_to (I.Control o) c
etc_at code c (Some (E.Jump jump)) = jump_at code c jump
etc_at code c (Some E.ConstantScalar) = constant_scalar_at code c
etc_at code c (Some E.ConstantVector) = constant_vector_at code c
etc_at code c (Some E.Call) = call_at code c
etc_at code c None = Err (trap_of 3 11)

-- The instruction whose first byte is `first`, of that family; the cursor stands after that byte.
unfoldable pub family_at : List ℕ → Cursor → ℕ → Family → Result Decoded Trap
family_at code c first ShortLocal = load_at code c first ShortLocal
family_at code c first ShortConst = short_constant_at code c first
family_at code c first GenScalar = scalar_at (operator_of (first % 2 ^ 5)) c
family_at code c first MemRef = memory_at code c (memory_of (first % 2 ^ 5))
family_at code c first Etc = etc_at code c (etc_of (first % 2 ^ 5))
family_at code c first LongLocal = load_at code c first LongLocal
family_at code c first LongGlobal = load_at code c first LongGlobal
family_at code c first Index = decoded_to (I.Index (first % 2 ^ 4)) c
family_at code c first Unassigned = Err (trap_of 3 11)

-- The instruction at a place of a function's code, which starts at byte 8. Whether CALL's function is there is judged by its plan.
unfoldable pub instruction_at : List ℕ → ℕ → Result Decoded Trap
instruction_at code place =
    cond (ltb place code_start) (Err (trap_of 3 1))
    (with_read (fetch_byte code (cursor_at place)) (Err (trap_of 3 1)) (λ first next. family_at code next first (family_of first)))
