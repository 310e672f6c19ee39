-- An example of every instruction, by computation from the definitions: what a planner would expect on a small machine.
-- Assumes nothing.
use Rattle.std.specs.Prelude.{ℕ, ◌≡◌, refl, true, false, List, [], ◌∷◌}
use Rattle.std.specs.Float.Ieee.{size}
use Rattle.descriptor.specs.declared.Target.TheVariants.{Local, Global}
use Rattle.descriptor.specs.Kinds.{segment, stack, kind_of, integer_kind, character_kind, array_kind, indirect_kind, undefined_kind, unsigned_kind, is_scalar}
use Rattle.operator.specs.declared.Monadic.TheVariants as M
use Rattle.operator.specs.declared.Dyadic.TheVariants as D
use Rattle.operator.specs.declared.Operator.TheVariants as O
use Rattle.scalar.specs.Value.{units}
use Rattle.scalar.specs.Order.{side, is_below, is_equal}
use Rattle.scalar.specs.Results.{integer, float, rounded, result}
use Rattle.scalar.specs.Reading.{whole_units, whole_of, truth_units, truth_of}
use Rattle.scalar.specs.Operators as S
use Rattle.procedure.specs.declared.header.Header.{Header}
use Rattle.procedure.specs.Bytes.{half_at, word_at}
use Rattle.procedure.specs.Headers.{header_at, code_of, line_of}
use Rattle.procedure.specs.Directory.{has_function}
use Rattle.instruction.specs.declared.Address.TheVariants as A
use Rattle.instruction.specs.declared.MemoryOperation.TheVariants as W
use Rattle.instruction.specs.declared.StackOperation.TheVariants as K
use Rattle.instruction.specs.declared.ArrayOperation.TheVariants as R
use Rattle.instruction.specs.declared.ControlOperation.TheVariants as C
use Rattle.instruction.specs.declared.Jump.TheVariants as J
use Rattle.instruction.specs.declared.Instruction.{Instruction}
use Rattle.instruction.specs.declared.Instruction.TheVariants as I
use Rattle.instruction.specs.Reading.{code_address}
use Rattle.segment.specs.Cells.{Cell, undefined, indirect, value}
use Rattle.segment.specs.Machine.{Frame, Machine}
use Rattle.manual.specs.OrTrap.{gives, trap}
use Rattle.manual.specs.Values as values
use Rattle.manual.specs.Effects.{variable, operand, word, undefined_value, reference, made, replaces, discards, swaps, stores, stores_element, enters, leaves, jumps, sets_origin, Plan, perform_all}
use Rattle.manual.specs.Seen.{seen_of}
use Rattle.manual.specs.Loads as loads
use Rattle.manual.specs.Scalars as scalars
use Rattle.manual.specs.Memory as memory
use Rattle.manual.specs.Control as control
use Rattle.manual.specs.Program.{under_manual}
use Rattle.manual.specs.Instructions.{Running, plan_of}

-- Scalars, a vector and a matrix.
abbrev number : ℕ → Cell
number w = value [] (w ∷ [])

abbrev vector : Cell
vector = value (3 ∷ []) (10 ∷ 20 ∷ 30 ∷ [])

abbrev matrix : Cell
matrix = value (2 ∷ 2 ∷ []) (1 ∷ 2 ∷ 3 ∷ 4 ∷ [])

abbrev bits : ℕ → ℕ → ℕ → ℕ → Cell
bits a b c d = value (4 ∷ []) (a ∷ b ∷ c ∷ d ∷ [])

-- A function with a result, one argument, one more local, one line and three words of code: it starts at word 2 of a segment of two entries.
-- Line 1 is at that code place.
abbrev bytes : ℕ → List ℕ
bytes line = 0 ∷ 0 ∷ 0 ∷ 2 ∷ 0 ∷ 2 ∷ 0 ∷ 6 ∷ 0x20 ∷ 1 ∷ 0 ∷ 1 ∷ 0 ∷ 2 ∷ 0 ∷ 3 ∷ 0 ∷ 0 ∷ 0 ∷ 0 ∷ 0 ∷ 0 ∷ 0 ∷ 7 ∷ 0 ∷ 0 ∷ 0 ∷ 8 ∷ 0 ∷ line ∷ 0 ∷ 0 ∷ []

abbrev header : Header
header = record { calltrace = false; rtntrace = false; result = true; nargs = 1; nlines = 1; nlocals = 2; ncode = 3 }

abbrev running : ℕ → Running
running line = record { program = under_manual (bytes line) (bytes line); selector = false; block = record { start = 2; header = header } }

-- A frame of that function, and a machine of such frames at origin 1 whose globals 8 and 9 hold the vector and undefined.
abbrev frame : List Cell → Frame Cell
frame cells = record { function = 1; pctr = 8; cells = cells }

abbrev framed : List (Frame Cell) → List Cell → Machine Cell
framed frames temporaries = record { flags = 1; temporaries = temporaries; frames = frames; globals = vector ∷ undefined ∷ [] }

-- The current frame, called from a bottom frame of no variables, has the result variable 7 at −1, an undefined local at −2 and at
-- −3 an argument that refers to global 8.
abbrev machine : List Cell → Machine Cell
machine temporaries = framed (frame (number 7 ∷ undefined ∷ indirect (Global (segment 8)) ∷ []) ∷ frame [] ∷ []) temporaries

-- The result variable is undefined; the bottom frame is the only one, with a result and without.
abbrev no_result : List Cell → Machine Cell
no_result temporaries = framed (frame (undefined ∷ number 7 ∷ number 5 ∷ []) ∷ frame [] ∷ []) temporaries

abbrev bottom_frame : Cell → List Cell → Machine Cell
bottom_frame result temporaries = framed (frame (result ∷ undefined ∷ number 5 ∷ []) ∷ []) temporaries

-- The plan on a stack of so many words, line 1 at 12; a stack of twenty where nothing is said.
abbrev plan_on : ℕ → Machine Cell → Instruction → Plan
plan_on words m i = plan_of (running 12) (seen_of words m) i 9

abbrev plan : List Cell → Instruction → Plan
plan temporaries i = plan_on 20 (machine temporaries) i

pub record Pushing : Type 0 where
  -- a local, the argument by reference, an undefined local, a word outside the frame, a global that is none
  pub local : plan [] (I.Load (A.Local 1)) ≡ gives (replaces 0 (variable (Local (stack 4))) ∷ jumps 9 ∷ [])
  pub by_reference : plan [] (I.Load (A.Local 3)) ≡ gives (replaces 0 (variable (Global (segment 8))) ∷ jumps 9 ∷ [])
  pub no_value : plan [] (I.Load (A.Local 2)) ≡ trap 10 0
  pub outside : plan [] (I.Load (A.Local 4)) ≡ trap 3 2
  pub global : plan [] (I.Load (A.Global (segment 8))) ≡ gives (replaces 0 (variable (Global (segment 8))) ∷ jumps 9 ∷ [])
  pub no_global : plan [] (I.Load (A.Global (segment 10))) ≡ trap 3 3
  pub short_constant : plan [] (I.ShortConstant true 5) ≡ gives (replaces 0 (word 0x80000005) ∷ jumps 9 ∷ [])
  pub constant_scalar : plan [] (I.ConstantScalar 0x01000041) ≡ gives (replaces 0 (word 0x01000041) ∷ jumps 9 ∷ [])
  pub constant_array : plan [] (I.ConstantScalar 0x02000019) ≡ trap 3 5
  pub constant_vector : plan [] (I.ConstantVector 2 (code_address 12)) ≡ gives (replaces 0 (made (2 ∷ []) (7 ∷ 8 ∷ [])) ∷ jumps 9 ∷ [])
  pub undefined_pushed : plan [] (I.Stack K.Undefined) ≡ gives (replaces 0 undefined_value ∷ jumps 9 ∷ [])
  pub get_origin : plan [] (I.Stack K.GetOrigin) ≡ gives (replaces 0 (word 1) ∷ jumps 9 ∷ [])
  pub referred : plan [] (I.Memory W.Reference (A.Local 3)) ≡ gives (replaces 0 (reference (Global (segment 8))) ∷ jumps 9 ∷ [])
  pub not_defined : plan [] (I.Memory W.TestDefined (A.Local 2)) ≡ gives (replaces 0 (word 0) ∷ jumps 9 ∷ [])
  pub defined : plan [] (I.Memory W.TestDefined (A.Local 3)) ≡ gives (replaces 0 (word 1) ∷ jumps 9 ∷ [])
  -- the frames take seven words: a stack of eight has room for one more cell, and of seven for none, whatever is pushed; what is wrong
  -- with the value is told before
  pub last_cell : plan_on 8 (machine []) (I.Load (A.Local 1)) ≡ gives (replaces 0 (variable (Local (stack 4))) ∷ jumps 9 ∷ [])
  pub load_full : plan_on 7 (machine []) (I.Load (A.Local 1)) ≡ trap 1 1
  pub load_nothing_full : plan_on 7 (machine []) (I.Load (A.Local 2)) ≡ trap 10 0
  pub short_constant_full : plan_on 7 (machine []) (I.ShortConstant false 5) ≡ trap 1 1
  pub constant_scalar_full : plan_on 7 (machine []) (I.ConstantScalar 5) ≡ trap 1 1
  pub constant_array_full : plan_on 7 (machine []) (I.ConstantScalar 0x02000019) ≡ trap 3 5
  pub constant_vector_full : plan_on 7 (machine []) (I.ConstantVector 2 (code_address 12)) ≡ trap 1 1
  pub undefined_full : plan_on 7 (machine []) (I.Stack K.Undefined) ≡ trap 1 1
  pub get_origin_full : plan_on 7 (machine []) (I.Stack K.GetOrigin) ≡ trap 1 1
  pub referred_full : plan_on 7 (machine []) (I.Memory W.Reference (A.Local 3)) ≡ trap 1 1
  pub test_full : plan_on 7 (machine []) (I.Memory W.TestDefined (A.Local 2)) ≡ trap 1 1

pub record Making : Type 0 where
  -- one operand: a scalar stays in its cell, an array is a new one; a character; nothing there; an undefined operand
  pub negative : plan (number 5 ∷ []) (I.Scalar (O.Monadic M.Negative)) ≡ gives (replaces 1 (word 0x80000005) ∷ jumps 9 ∷ [])
  pub identity : plan (vector ∷ []) (I.Scalar (O.Monadic M.Identity)) ≡ gives (replaces 1 (made (3 ∷ []) (10 ∷ 20 ∷ 30 ∷ [])) ∷ jumps 9 ∷ [])
  pub typed : plan (number 0x01000041 ∷ []) (I.Scalar (O.Monadic M.Magnitude)) ≡ trap 7 0
  pub missing : plan [] (I.Scalar (O.Monadic M.Not)) ≡ trap 3 4
  pub unknown : plan (undefined ∷ []) (I.Scalar (O.Monadic M.Floor)) ≡ trap 3 5
  -- two operands: the first is the top; one element extends; unequal ranks; unequal lengths; the first trap in ravel order
  pub difference : plan (number 5 ∷ number 7 ∷ []) (I.Scalar (O.Dyadic D.Difference)) ≡ gives (replaces 2 (word 0x80000002) ∷ jumps 9 ∷ [])
  pub extended : plan (vector ∷ number 1 ∷ []) (I.Scalar (O.Dyadic D.Sum)) ≡ gives (replaces 2 (made (3 ∷ []) (11 ∷ 21 ∷ 31 ∷ [])) ∷ jumps 9 ∷ [])
  pub ranks : plan (vector ∷ matrix ∷ []) (I.Scalar (O.Dyadic D.Sum)) ≡ trap 5 0
  pub lengths : plan (vector ∷ value (2 ∷ []) (1 ∷ 2 ∷ []) ∷ []) (I.Scalar (O.Dyadic D.Sum)) ≡ trap 6 0
  pub first_trap : plan (value (2 ∷ []) (8388607 ∷ 0x01000041 ∷ []) ∷ number 1 ∷ []) (I.Scalar (O.Dyadic D.Sum)) ≡ trap 8 1
  pub empty : plan (value (0 ∷ []) [] ∷ number 0x01000041 ∷ []) (I.Scalar (O.Dyadic D.Sum)) ≡ gives (replaces 2 (made (0 ∷ []) []) ∷ jumps 9 ∷ [])
  -- AND and OR, the manual's LOGICAL_PRODUCT and LOGICAL_SUM: its truth table on vectors; 1 as a float; neither 0 nor 1; a character is
  -- told before that
  pub conjunction : plan (bits 0 0 1 1 ∷ bits 0 1 0 1 ∷ []) (I.Scalar (O.Dyadic D.LogicalProduct)) ≡ gives (replaces 2 (made (4 ∷ []) (0 ∷ 0 ∷ 0 ∷ 1 ∷ [])) ∷ jumps 9 ∷ [])
  pub disjunction : plan (bits 0 0 1 1 ∷ bits 0 1 0 1 ∷ []) (I.Scalar (O.Dyadic D.LogicalSum)) ≡ gives (replaces 2 (made (4 ∷ []) (0 ∷ 1 ∷ 1 ∷ 1 ∷ [])) ∷ jumps 9 ∷ [])
  pub and_float : plan (number 0x6000_0000 ∷ number 1 ∷ []) (I.Scalar (O.Dyadic D.LogicalProduct)) ≡ gives (replaces 2 (word 1) ∷ jumps 9 ∷ [])
  pub or_float : plan (number 0 ∷ number 0x6000_0000 ∷ []) (I.Scalar (O.Dyadic D.LogicalSum)) ≡ gives (replaces 2 (word 1) ∷ jumps 9 ∷ [])
  pub and_two : plan (number 0 ∷ number 2 ∷ []) (I.Scalar (O.Dyadic D.LogicalProduct)) ≡ trap 8 5
  pub or_two : plan (number 2 ∷ number 1 ∷ []) (I.Scalar (O.Dyadic D.LogicalSum)) ≡ trap 8 5
  pub and_character : plan (number 2 ∷ number 0x01000041 ∷ []) (I.Scalar (O.Dyadic D.LogicalProduct)) ≡ trap 7 0
  pub or_character : plan (number 0x01000041 ∷ number 1 ∷ []) (I.Scalar (O.Dyadic D.LogicalSum)) ≡ trap 7 0
  -- LESS and EQUAL by the exact values: debits against credits, of which the difference of each pair would trap; a character
  pub debits_below : plan (value (2 ∷ []) (0x807f_ffff ∷ 0xffff_ffff ∷ []) ∷ value (2 ∷ []) (8388607 ∷ 0x7fff_ffff ∷ []) ∷ []) (I.Scalar (O.Dyadic D.Less)) ≡ gives (replaces 2 (made (2 ∷ []) (1 ∷ 1 ∷ [])) ∷ jumps 9 ∷ [])
  pub debits_unequal : plan (value (2 ∷ []) (0x807f_ffff ∷ 0xffff_ffff ∷ []) ∷ value (2 ∷ []) (8388607 ∷ 0x7fff_ffff ∷ []) ∷ []) (I.Scalar (O.Dyadic D.Equal)) ≡ gives (replaces 2 (made (2 ∷ []) (0 ∷ 0 ∷ [])) ∷ jumps 9 ∷ [])
  pub less_character : plan (value (2 ∷ []) (0x807f_ffff ∷ 0x01000041 ∷ []) ∷ number 8388607 ∷ []) (I.Scalar (O.Dyadic D.Less)) ≡ trap 7 0
  pub shape : plan (matrix ∷ []) (I.Array R.Shape) ≡ gives (replaces 1 (made (2 ∷ []) (2 ∷ 2 ∷ [])) ∷ jumps 9 ∷ [])
  pub shape_of_scalar : plan (number 5 ∷ []) (I.Array R.Shape) ≡ gives (replaces 1 (made (0 ∷ []) []) ∷ jumps 9 ∷ [])
  pub ravel : plan (matrix ∷ []) (I.Array R.Ravel) ≡ gives (replaces 1 (made (4 ∷ []) (1 ∷ 2 ∷ 3 ∷ 4 ∷ [])) ∷ jumps 9 ∷ [])
  pub reshape : plan (value (2 ∷ []) (2 ∷ 2 ∷ []) ∷ vector ∷ []) (I.Array R.Reshape) ≡ gives (replaces 2 (made (2 ∷ 2 ∷ []) (10 ∷ 20 ∷ 30 ∷ 10 ∷ [])) ∷ jumps 9 ∷ [])
  pub no_lengths : plan (value (0 ∷ []) [] ∷ vector ∷ []) (I.Array R.Reshape) ≡ gives (replaces 2 (word 10) ∷ jumps 9 ∷ [])
  pub nothing_to_take : plan (number 2 ∷ value (0 ∷ []) [] ∷ []) (I.Array R.Reshape) ≡ trap 6 0
  pub catenate : plan (number 5 ∷ vector ∷ []) (I.Array R.Catenate) ≡ gives (replaces 2 (made (4 ∷ []) (5 ∷ 10 ∷ 20 ∷ 30 ∷ [])) ∷ jumps 9 ∷ [])
  -- two ward tables; a row added below and above; a table of no rows; a row of no elements; a scalar, a table of three ranks, a wider row, one
  -- element, too many rows
  pub wards : plan (matrix ∷ value (1 ∷ 2 ∷ []) (5 ∷ 6 ∷ []) ∷ []) (I.Array R.Catenate) ≡ gives (replaces 2 (made (3 ∷ 2 ∷ []) (1 ∷ 2 ∷ 3 ∷ 4 ∷ 5 ∷ 6 ∷ [])) ∷ jumps 9 ∷ [])
  pub row_below : plan (matrix ∷ value (2 ∷ []) (5 ∷ 6 ∷ []) ∷ []) (I.Array R.Catenate) ≡ gives (replaces 2 (made (3 ∷ 2 ∷ []) (1 ∷ 2 ∷ 3 ∷ 4 ∷ 5 ∷ 6 ∷ [])) ∷ jumps 9 ∷ [])
  pub row_above : plan (value (2 ∷ []) (5 ∷ 6 ∷ []) ∷ matrix ∷ []) (I.Array R.Catenate) ≡ gives (replaces 2 (made (3 ∷ 2 ∷ []) (5 ∷ 6 ∷ 1 ∷ 2 ∷ 3 ∷ 4 ∷ [])) ∷ jumps 9 ∷ [])
  pub no_rows : plan (value (0 ∷ 2 ∷ []) [] ∷ matrix ∷ []) (I.Array R.Catenate) ≡ gives (replaces 2 (made (2 ∷ 2 ∷ []) (1 ∷ 2 ∷ 3 ∷ 4 ∷ [])) ∷ jumps 9 ∷ [])
  pub no_columns : plan (value (0 ∷ []) [] ∷ value (65534 ∷ 0 ∷ []) [] ∷ []) (I.Array R.Catenate) ≡ gives (replaces 2 (made (65535 ∷ 0 ∷ []) []) ∷ jumps 9 ∷ [])
  pub beside_scalar : plan (number 5 ∷ matrix ∷ []) (I.Array R.Catenate) ≡ trap 5 0
  pub beside_cube : plan (matrix ∷ value (1 ∷ 1 ∷ 2 ∷ []) (5 ∷ 6 ∷ []) ∷ []) (I.Array R.Catenate) ≡ trap 5 0
  pub other_width : plan (vector ∷ matrix ∷ []) (I.Array R.Catenate) ≡ trap 6 0
  pub one_element : plan (matrix ∷ value (1 ∷ []) (5 ∷ []) ∷ []) (I.Array R.Catenate) ≡ trap 6 0
  pub many_rows : plan (value (65535 ∷ 0 ∷ []) [] ∷ value (0 ∷ []) [] ∷ []) (I.Array R.Catenate) ≡ trap 6 0
  pub index_generator : plan (number 3 ∷ []) (I.Array R.IndexGenerator) ≡ gives (replaces 1 (made (3 ∷ []) (1 ∷ 2 ∷ 3 ∷ [])) ∷ jumps 9 ∷ [])
  -- row 2, column 1 at origin 1; of a scalar; by an array; the wrong number of subscripts; an undefined one; one out of range
  pub index : plan (matrix ∷ number 2 ∷ number 1 ∷ []) (I.Index 2) ≡ gives (replaces 3 (word 3) ∷ jumps 9 ∷ [])
  pub index_of_scalar : plan (number 5 ∷ number 1 ∷ []) (I.Index 1) ≡ trap 5 0
  pub index_by_array : plan (vector ∷ vector ∷ []) (I.Index 1) ≡ trap 5 0
  pub subscripts : plan (matrix ∷ number 2 ∷ []) (I.Index 1) ≡ trap 9 1
  pub no_subscript : plan (vector ∷ undefined ∷ []) (I.Index 1) ≡ trap 5 0
  pub out_of_range : plan (vector ∷ number 4 ∷ []) (I.Index 1) ≡ trap 9 2

pub record Writing : Type 0 where
  pub assign : plan (number 5 ∷ []) (I.Memory W.Assign (A.Local 2)) ≡ gives (stores (Local (stack 3)) (operand 0) ∷ jumps 9 ∷ [])
  pub assign_no_result : plan (vector ∷ []) (I.Memory W.AssignNoResult (A.Local 3)) ≡ gives (stores (Global (segment 8)) (operand 0) ∷ discards 1 ∷ jumps 9 ∷ [])
  pub assign_undefined : plan (undefined ∷ []) (I.Memory W.Assign (A.Local 2)) ≡ trap 3 5
  -- 5 into slot 3 of the vector by reference; into an undefined variable; into a scalar
  pub assign_indexed : plan (number 3 ∷ number 5 ∷ []) (I.Memory (W.AssignIndexed 1) (A.Local 3)) ≡ gives (stores_element (Global (segment 8)) 2 5 2 ∷ jumps 9 ∷ [])
  pub into_nothing : plan (number 3 ∷ number 5 ∷ []) (I.Memory (W.AssignIndexed 1) (A.Local 2)) ≡ trap 3 5
  pub into_scalar : plan (number 3 ∷ number 5 ∷ []) (I.Memory (W.AssignIndexed 1) (A.Local 1)) ≡ trap 5 0
  pub eat : plan (undefined ∷ []) (I.Stack K.Eat1) ≡ gives (discards 1 ∷ jumps 9 ∷ [])
  pub interchange : plan (number 1 ∷ number 2 ∷ []) (I.Stack K.Interchange) ≡ gives (swaps ∷ jumps 9 ∷ [])
  pub set_origin : plan (number 0 ∷ []) (I.Stack K.SetOrigin) ≡ gives (sets_origin 0 ∷ replaces 1 (word 1) ∷ jumps 9 ∷ [])

pub record Going : Type 0 where
  pub go : plan [] (I.Jump J.Go (code_address 19)) ≡ gives (jumps 19 ∷ [])
  pub go_outside : plan [] (I.Jump J.Go (code_address 20)) ≡ trap 3 1
  pub go_true : plan (number 1 ∷ []) (I.Jump J.GoTrue (code_address 8)) ≡ gives (discards 1 ∷ jumps 8 ∷ [])
  pub go_false : plan (number 1 ∷ []) (I.Jump J.GoFalse (code_address 99)) ≡ gives (discards 1 ∷ jumps 9 ∷ [])
  -- line 1, and where its entry is the end of the code; an empty vector; line 0 leaves, and so does −1; half a line
  pub branch : plan (number 1 ∷ []) (I.Control C.Branch) ≡ gives (discards 1 ∷ jumps 12 ∷ [])
  pub branch_outside : plan_of (running 20) (seen_of 20 (machine (number 1 ∷ []))) (I.Control C.Branch) 9 ≡ trap 3 1
  pub branch_nowhere : plan (value (0 ∷ []) [] ∷ []) (I.Control C.Branch) ≡ gives (discards 1 ∷ jumps 9 ∷ [])
  pub branch_out : plan (number 0 ∷ []) (I.Control C.Branch) ≡ gives (discards 1 ∷ leaves 3 true ∷ [])
  pub branch_below : plan (number 0x80000001 ∷ []) (I.Control C.Branch) ≡ gives (discards 1 ∷ leaves 3 true ∷ [])
  pub branch_half : plan (number 0x5fc00000 ∷ []) (I.Control C.Branch) ≡ trap 8 5
  pub branch_leftover : plan (number 0 ∷ number 1 ∷ []) (I.Control C.Branch) ≡ trap 3 12
  pub return : plan [] (I.Control C.Return) ≡ gives (leaves 3 true ∷ [])
  pub return_leftover : plan (number 1 ∷ []) (I.Control C.Return) ≡ trap 3 12
  -- nothing to return; the bottom frame, which no one called: (3,12) before it, (10,0) after it
  pub return_nothing : plan_on 20 (no_result []) (I.Control C.Return) ≡ trap 10 0
  pub branch_nothing : plan_on 20 (no_result (number 0 ∷ [])) (I.Control C.Branch) ≡ trap 10 0
  pub return_bottom : plan_on 20 (bottom_frame (number 7) []) (I.Control C.Return) ≡ trap 3 13
  pub branch_bottom : plan_on 20 (bottom_frame (number 7) (number 0 ∷ [])) (I.Control C.Branch) ≡ trap 3 13
  pub line_bottom : plan_on 20 (bottom_frame (number 7) (number 1 ∷ [])) (I.Control C.Branch) ≡ gives (discards 1 ∷ jumps 12 ∷ [])
  pub return_bottom_leftover : plan_on 20 (bottom_frame (number 7) (number 1 ∷ [])) (I.Control C.Return) ≡ trap 3 12
  pub branch_bottom_leftover : plan_on 20 (bottom_frame (number 7) (number 0 ∷ number 1 ∷ [])) (I.Control C.Branch) ≡ trap 3 12
  pub return_bottom_nothing : plan_on 20 (bottom_frame undefined []) (I.Control C.Return) ≡ trap 3 13
  -- function 1 wants one argument, and room for two locals and the two words of its frame: beside seven words of frames and the argument a
  -- stack of twelve has it, and one of eleven has not; the wrong number of arguments is told before
  pub call : plan (number 5 ∷ []) (I.Call 1 false 1) ≡ gives (jumps 9 ∷ enters 2 0x10008 ∷ [])
  pub arguments : plan (number 5 ∷ []) (I.Call 0 false 1) ≡ trap 3 4
  pub call_room : plan_on 12 (machine (number 5 ∷ [])) (I.Call 1 false 1) ≡ gives (jumps 9 ∷ enters 2 0x10008 ∷ [])
  pub call_full : plan_on 11 (machine (number 5 ∷ [])) (I.Call 1 false 1) ≡ trap 1 1
  pub arguments_full : plan_on 11 (machine (number 5 ∷ [])) (I.Call 0 false 1) ≡ trap 3 4
  pub no_operation : plan [] (I.Control C.NoOperation) ≡ gives (jumps 9 ∷ [])
  pub breakpoint : plan [] (I.Control C.Breakpoint) ≡ trap 2 4
  pub attention : plan [] (I.Control C.Attention) ≡ trap 4 0

-- The auditor's story on values: writing 0 into a copy leaves the list that was copied.
pub record Story : Type 0 where
  pub copied : (perform_all (stores (Global (segment 9)) (variable (Global (segment 8))) ∷ stores_element (Global (segment 9)) 2 0 0 ∷ discards 1 ∷ []) (machine [])).globals
      ≡ vector ∷ value (3 ∷ []) (10 ∷ 20 ∷ 0 ∷ []) ∷ []

pub pushing : Pushing
unfolding plan_of seen_of loads.load loads.refer_to loads.test_defined loads.push_undefined loads.get_origin loads.short_constant
    loads.constant_scalar loads.constant_vector is_scalar kind_of integer_kind character_kind array_kind indirect_kind undefined_kind unsigned_kind
    code_of word_at half_at
pushing = record {
  local = refl;
  by_reference = refl;
  no_value = refl;
  outside = refl;
  global = refl;
  no_global = refl;
  short_constant = refl;
  constant_scalar = refl;
  constant_array = refl;
  constant_vector = refl;
  undefined_pushed = refl;
  get_origin = refl;
  referred = refl;
  not_defined = refl;
  defined = refl;
  last_cell = refl;
  load_full = refl;
  load_nothing_full = refl;
  short_constant_full = refl;
  constant_scalar_full = refl;
  constant_array_full = refl;
  constant_vector_full = refl;
  undefined_full = refl;
  get_origin_full = refl;
  referred_full = refl;
  test_full = refl;
}

pub making : Making
unfolding plan_of seen_of scalars.monadic scalars.dyadic scalars.shape scalars.ravel scalars.reshape scalars.catenate scalars.index_generator
    scalars.index values.each values.monadic values.dyadic values.conform values.pairwise values.joined_shape values.catenate values.up_from
    values.index_generator values.cycle values.reshape values.ravel_place S.identity S.negative S.floor S.magnitude_of S.not_of S.sum_sign S.sum_size
    S.plus S.minus S.sum S.difference S.logical_product S.logical_sum side is_below is_equal S.less S.equal units integer float rounded result whole_units whole_of truth_units truth_of
    size
making = record {
  negative = refl;
  identity = refl;
  typed = refl;
  missing = refl;
  unknown = refl;
  difference = refl;
  extended = refl;
  ranks = refl;
  lengths
      = refl;
  first_trap = refl;
  empty = refl;
  conjunction = refl;
  disjunction = refl;
  and_float = refl;
  or_float = refl;
  and_two = refl;
  or_two = refl;
  and_character = refl;
  or_character = refl;
  debits_below = refl;
  debits_unequal = refl;
  less_character = refl;
  shape = refl;
  shape_of_scalar = refl;
  ravel = refl;
  reshape = refl;
  no_lengths = refl;
  nothing_to_take = refl;
  catenate = refl;
  wards = refl;
  row_below = refl;
  row_above = refl;
  no_rows = refl;
  no_columns = refl;
  beside_scalar = refl;
  beside_cube = refl;
  other_width = refl;
  one_element = refl;
  many_rows = refl;
  index_generator = refl;
  index = refl;
  index_of_scalar = refl;
  index_by_array = refl;
  subscripts = refl;
  no_subscript = refl;
  out_of_range = refl;
}

pub writing : Writing
unfolding plan_of seen_of memory.assign memory.assign_no_result memory.assign_indexed memory.eat memory.interchange scalars.set_origin
    values.ravel_place units whole_units whole_of truth_units truth_of
writing = record {
  assign = refl;
  assign_no_result = refl;
  assign_undefined = refl;
  assign_indexed = refl;
  into_nothing = refl;
  into_scalar = refl;
  eat = refl;
  interchange = refl;
  set_origin = refl;
}

pub going : Going
unfolding plan_of seen_of control.go control.go_if control.return control.branch control.call control.breakpoint control.attention
    memory.no_operation line_of has_function header_at word_at half_at units whole_units whole_of truth_units truth_of
going = record {
  go = refl;
  go_outside = refl;
  go_true = refl;
  go_false = refl;
  branch = refl;
  branch_outside = refl;
  branch_nowhere = refl;
  branch_out = refl;
  branch_below = refl;
  branch_half = refl;
  branch_leftover = refl;
  return = refl;
  return_leftover = refl;
  return_nothing = refl;
  branch_nothing = refl;
  return_bottom = refl;
  branch_bottom = refl;
  line_bottom = refl;
  return_bottom_leftover = refl;
  branch_bottom_leftover = refl;
  return_bottom_nothing = refl;
  call = refl;
  arguments = refl;
  call_room = refl;
  call_full = refl;
  arguments_full = refl;
  no_operation = refl;
  breakpoint = refl;
  attention = refl;
}

pub story : Story
story = record { copied = refl }
