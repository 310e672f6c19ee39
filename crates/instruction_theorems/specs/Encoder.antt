-- The bytes of an instruction: document 01's first bytes and fields, and the manual's suboperation numbers, read the other way.
-- A compiler may be held to it. A reader must believe nothing here: Theorems says that decoding gives the instruction back.
-- Assumes nothing.
use Rattle.std.specs.Prelude.{ℕ, ◌+◌, ◌-◌, ◌*◌, ◌/◌, ◌%◌, ◌^◌, ◌<◌, ◌≤◌, ◌≡◌, Bool, true, false, List, [], ◌∷◌, ◌++◌, length, replicate, leb}
use Rattle.descriptor.specs.Kinds.{bit}
use Rattle.operator.specs.Table.{operator_number}
use Rattle.instruction.specs.declared.Address.{Address}
use Rattle.instruction.specs.declared.Address.TheVariants.{Local, Global}
use Rattle.instruction.specs.declared.MemoryOperation.{MemoryOperation}
use Rattle.instruction.specs.declared.MemoryOperation.TheVariants.{AssignIndexed, Assign, AssignNoResult, Reference, TestDefined}
use Rattle.instruction.specs.declared.StackOperation.{StackOperation}
use Rattle.instruction.specs.declared.StackOperation.TheVariants.{Undefined, Eat1, Interchange, SetOrigin, GetOrigin}
use Rattle.instruction.specs.declared.ArrayOperation.{ArrayOperation}
use Rattle.instruction.specs.declared.ArrayOperation.TheVariants.{Shape, Reshape, Ravel, Catenate, IndexGenerator}
use Rattle.instruction.specs.declared.ControlOperation.{ControlOperation}
use Rattle.instruction.specs.declared.ControlOperation.TheVariants.{Branch, Return, NoOperation, Breakpoint, Attention}
use Rattle.instruction.specs.declared.Jump.{Jump}
use Rattle.instruction.specs.declared.Jump.TheVariants.{Go, GoTrue, GoFalse}
use Rattle.instruction.specs.declared.Instruction.{Instruction}
use Rattle.instruction.specs.declared.Instruction.TheVariants as I
use Rattle.instruction.specs.Reading.{boundary, code_address}

abbrev pub memory_number : MemoryOperation → ℕ
memory_number (AssignIndexed rank) = rank
memory_number Assign = 16
memory_number AssignNoResult = 17
memory_number Reference = 18
memory_number TestDefined = 19

abbrev pub stack_number : StackOperation → ℕ
stack_number Undefined = 0
stack_number Eat1 = 1
stack_number Interchange = 2
stack_number SetOrigin = 3
stack_number GetOrigin = 4

abbrev pub array_number : ArrayOperation → ℕ
array_number Shape = 5
array_number Reshape = 6
array_number Ravel = 7
array_number Catenate = 8
array_number IndexGenerator = 9

abbrev pub control_number : ControlOperation → ℕ
control_number Branch = 12
control_number Return = 16
control_number NoOperation = 18
control_number Breakpoint = 19
control_number Attention = 20

abbrev pub jump_number : Jump → ℕ
jump_number Go = 13
jump_number GoTrue = 14
jump_number GoFalse = 15

-- Big-endian bytes.
abbrev pub half_bytes : ℕ → List ℕ
half_bytes v = (v / 2 ^ 8) ∷ (v % 2 ^ 8) ∷ []

abbrev pub word_bytes : ℕ → List ℕ
word_bytes w = (w / 2 ^ 24) ∷ (w / 2 ^ 16 % 2 ^ 8) ∷ (w / 2 ^ 8 % 2 ^ 8) ∷ (w % 2 ^ 8) ∷ []

abbrev pub words_bytes : List ℕ → List ℕ
words_bytes [] = []
words_bytes (w ∷ words) = word_bytes w ++ words_bytes words

-- A local in the short form where that reaches, else in the long one.
abbrev pub local_bytes : ℕ → Bool → List ℕ
local_bytes below true = (64 - below) ∷ []
local_bytes below false = half_bytes (0xC000 + (4096 - below))

abbrev pub address_bytes : Address → List ℕ
address_bytes (Local below) = local_bytes below (leb below 64)
address_bytes (Global a) = half_bytes (0xD000 + a.0)

-- The zero bytes that fill up to the next word boundary of the function.
abbrev pub padding : ℕ → List ℕ
padding at = replicate (boundary at - at) 0

-- The bytes of an instruction at a place; `words` are those of a CONSTANT_VECTOR.
unfoldable pub encode : ℕ → List ℕ → Instruction → List ℕ
encode place words (I.Load a) = address_bytes a
encode place words (I.ShortConstant negative magnitude) = half_bytes (0x4000 + bit negative * 2 ^ 12 + magnitude)
encode place words (I.Scalar o) = (0x60 + operator_number o) ∷ []
encode place words (I.Memory o a) = (0x80 + memory_number o) ∷ address_bytes a
encode place words (I.Stack o) = (0xA0 + stack_number o) ∷ []
encode place words (I.Array o) = (0xA0 + array_number o) ∷ []
encode place words (I.Control o) = (0xA0 + control_number o) ∷ []
encode place words (I.Jump jump to) = (0xA0 + jump_number jump) ∷ half_bytes to.0
encode place words (I.ConstantScalar w) = 0xAA ∷ word_bytes w
encode place words (I.ConstantVector count first) = 0xAB ∷ count ∷ (padding (place + 2) ++ words_bytes words)
encode place words (I.Call arguments P fn) = 0xB1 ∷ half_bytes (arguments * 2 ^ 12 + bit P * 2 ^ 11 + fn)
encode place words (I.Index rank) = (0xE0 + rank) ∷ []

-- Which fields fit.
abbrev pub AddressFits : Address → Type 0
AddressFits (Local below) = (1 ≤ below) × (below ≤ 4096)
AddressFits (Global a) = a.0 < 4096

abbrev pub MemoryFits : MemoryOperation → Type 0
MemoryFits (AssignIndexed rank) = (1 ≤ rank) × (rank ≤ 15)
MemoryFits Assign = Unit {0}
MemoryFits AssignNoResult = Unit {0}
MemoryFits Reference = Unit {0}
MemoryFits TestDefined = Unit {0}

unfoldable pub Encodable : ℕ → List ℕ → Instruction → Type 0
Encodable place words (I.Load a) = AddressFits a
Encodable place words (I.ShortConstant negative magnitude) = magnitude < 4096
Encodable place words (I.Scalar o) = Unit {0}
Encodable place words (I.Memory o a) = MemoryFits o × AddressFits a
Encodable place words (I.Stack o) = Unit {0}
Encodable place words (I.Array o) = Unit {0}
Encodable place words (I.Control o) = Unit {0}
Encodable place words (I.Jump jump to) = to.0 < 65536
Encodable place words (I.ConstantScalar w) = w < 2 ^ 32
Encodable place words (I.ConstantVector count first) =
    (count ≡ length words) × (count < 256) × (first ≡ code_address (boundary (place + 2)))
Encodable place words (I.Call arguments P fn) = (arguments < 16) × (fn < 2048)
Encodable place words (I.Index rank) = rank < 16
