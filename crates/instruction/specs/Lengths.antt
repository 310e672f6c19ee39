-- How long an instruction is, as far as its first byte says: document 01's "First bytes", with "GO, GO_TRUE and GO_FALSE add two bytes;
-- CALL two", and the manual's word of CONSTANT_SCALAR. Families and suboperations are those of Families and of the tables, so that no
-- range and no number stands here again. A reader must believe nothing here: instruction_theorems/specs/FirstBytes says that each
-- length is that of whatever decoding gives. Assumes nothing.
use Rattle.std.specs.Prelude.{ℕ, ◌%◌, ◌^◌, Option, Some, None}
use Rattle.operator.specs.declared.Operator.{Operator}
use Rattle.operator.specs.Table.{operator_of}
use Rattle.instruction.specs.declared.MemoryOperation.{MemoryOperation}
use Rattle.instruction.specs.declared.table.EtcSuboperation.{EtcSuboperation}
use Rattle.instruction.specs.declared.table.EtcSuboperation.TheVariants as E
use Rattle.instruction.specs.declared.family.Family.{Family}
use Rattle.instruction.specs.declared.family.Family.TheVariants.{ShortLocal, ShortConst, GenScalar, MemRef, Etc, LongLocal, LongGlobal, Index, Unassigned}
use Rattle.instruction.specs.declared.length.Length.{Length}
use Rattle.instruction.specs.declared.length.Length.TheVariants.{Fixed, ByAddress, ByCount, NoInstruction}
use Rattle.instruction.specs.Families.{family_of}
use Rattle.instruction.specs.Tables.{memory_of, etc_of}

-- GENSCALAR: the first byte is all.
abbrev pub scalar_length : Option Operator → Length
scalar_length (Some o) = Fixed 1
scalar_length None = NoInstruction

-- MEMREF: an address of one or two bytes follows.
abbrev pub memory_length : Option MemoryOperation → Length
memory_length (Some o) = ByAddress
memory_length None = NoInstruction

-- ETC: two bytes follow a jump and CALL, a word CONSTANT_SCALAR, a count CONSTANT_VECTOR.
abbrev pub etc_length : Option EtcSuboperation → Length
etc_length (Some (E.Stack o)) = Fixed 1
etc_length (Some (E.Array o)) = Fixed 1
etc_length (Some (E.Control o)) = Fixed 1
etc_length (Some (E.Jump jump)) = Fixed 3
etc_length (Some E.ConstantScalar) = Fixed 5
etc_length (Some E.ConstantVector) = ByCount
etc_length (Some E.Call) = Fixed 3
etc_length None = NoInstruction

-- By the family, and by the suboperation's number where the family has suboperations.
abbrev pub length_in : Family → ℕ → Length
length_in ShortLocal number = Fixed 1
length_in ShortConst number = Fixed 2
length_in GenScalar number = scalar_length (operator_of number)
length_in MemRef number = memory_length (memory_of number)
length_in Etc number = etc_length (etc_of number)
length_in LongLocal number = Fixed 2
length_in LongGlobal number = Fixed 2
length_in Index number = Fixed 1
length_in Unassigned number = NoInstruction

unfoldable pub length_by : ℕ → Length
length_by first = length_in (family_of first) (first % 2 ^ 5)

-- The bytes that are fixed; 0 where none are.
abbrev pub fixed_bytes : Length → ℕ
fixed_bytes (Fixed bytes) = bytes
fixed_bytes ByAddress = 0
fixed_bytes ByCount = 0
fixed_bytes NoInstruction = 0
