-- The plan of every instruction: the manual's table of contents. A plan is told by what is seen and by the code alone.
-- A reader must believe: each instruction has its section's meaning. Assumes nothing.
use Rattle.std.specs.Prelude.{ℕ, zero, suc, ◌+◌, ◌%◌, ◌^◌, Bool, true, false, not, List, [], ◌∷◌, Result, Ok, Err}
use Rattle.descriptor.specs.Fields.{integer_word}
use Rattle.descriptor.specs.Kinds.{bit}
use Rattle.operator.specs.declared.Operator.{Operator}
use Rattle.operator.specs.declared.Operator.TheVariants as O
use Rattle.procedure.specs.declared.header.Header.{Header}
use Rattle.procedure.specs.declared.header.Block.{Block}
use Rattle.procedure.specs.Bytes.{word_at}
use Rattle.procedure.specs.Headers.{code_of, line_of}
use Rattle.procedure.specs.Directory.{selected, has_function, header_of_function}
use Rattle.instruction.specs.declared.Address.{Address}
use Rattle.instruction.specs.declared.Address.TheVariants as A
use Rattle.instruction.specs.declared.MemoryOperation.{MemoryOperation}
use Rattle.instruction.specs.declared.MemoryOperation.TheVariants as M
use Rattle.instruction.specs.declared.StackOperation.{StackOperation}
use Rattle.instruction.specs.declared.StackOperation.TheVariants as S
use Rattle.instruction.specs.declared.ArrayOperation.{ArrayOperation}
use Rattle.instruction.specs.declared.ArrayOperation.TheVariants as R
use Rattle.instruction.specs.declared.ControlOperation.{ControlOperation}
use Rattle.instruction.specs.declared.ControlOperation.TheVariants as C
use Rattle.instruction.specs.declared.Jump.{Jump}
use Rattle.instruction.specs.declared.Jump.TheVariants as J
use Rattle.instruction.specs.declared.Instruction.{Instruction}
use Rattle.instruction.specs.declared.Instruction.TheVariants as I
use Rattle.trap.specs.declared.Trap.{Trap}
use Rattle.instruction.specs.declared.Decoded.{Decoded}
use Rattle.instruction.specs.Decoding.{instruction_at}
use Rattle.manual.specs.OrTrap.{OrTrap, trap, stop_if}
use Rattle.manual.specs.Effects.{Plan}
use Rattle.manual.specs.Seen.{Seen, Variable, variables_of}
use Rattle.manual.specs.Program.{Program, under_table}
use Rattle.manual.specs.Loads as loads
use Rattle.manual.specs.Scalars as scalars
use Rattle.manual.specs.Memory as memory
use Rattle.manual.specs.Control as control

-- The function that is run: what the run is lent, P, and its block.
pub record Running : Type 0 where
  pub program : Program
  pub selector : Bool
  pub block : Block

abbrev pub running : Program → Bool → Block → Running
running program selector block = record { program = program; selector = selector; block = block }

abbrev pub segment_of : Running → List ℕ
segment_of f = selected f.selector f.program.regular f.program.alternate

abbrev pub header_of : Running → Header
header_of f = f.block.header

abbrev pub code_in : Running → List ℕ
code_in f = code_of (segment_of f) f.block

-- The n words of the code from a place on.
abbrev pub words_from : ℕ → List ℕ → ℕ → List ℕ
words_from zero code place = []
words_from (suc n) code place = word_at code place ∷ words_from n code (place + 4)

abbrev pub resolve : Seen → Header → Address → OrTrap Variable
resolve seen h (A.Local v) = seen.local (variables_of h) v
resolve seen h (A.Global g) = seen.global g.0

abbrev pub scalar_plan : Seen → ℕ → Operator → Plan
scalar_plan seen next (O.Monadic op) = scalars.monadic seen next op
scalar_plan seen next (O.Dyadic op) = scalars.dyadic seen next op

abbrev pub memory_plan : Seen → ℕ → MemoryOperation → OrTrap Variable → Plan
memory_plan seen next (M.AssignIndexed rank) resolved = memory.assign_indexed seen next (rank % 2 ^ 4) resolved
memory_plan seen next M.Assign resolved = memory.assign seen next resolved
memory_plan seen next M.AssignNoResult resolved = memory.assign_no_result seen next resolved
memory_plan seen next M.Reference resolved = loads.refer_to seen next resolved
memory_plan seen next M.TestDefined resolved = loads.test_defined seen next resolved

abbrev pub stack_plan : Seen → ℕ → StackOperation → Plan
stack_plan seen next S.Undefined = loads.push_undefined seen next
stack_plan seen next S.Eat1 = memory.eat seen next
stack_plan seen next S.Interchange = memory.interchange seen next
stack_plan seen next S.SetOrigin = scalars.set_origin seen next
stack_plan seen next S.GetOrigin = loads.get_origin seen next

abbrev pub array_plan : Seen → ℕ → ArrayOperation → Plan
array_plan seen next R.Shape = scalars.shape seen next
array_plan seen next R.Reshape = scalars.reshape seen next
array_plan seen next R.Ravel = scalars.ravel seen next
array_plan seen next R.Catenate = scalars.catenate seen next
array_plan seen next R.IndexGenerator = scalars.index_generator seen next

abbrev pub control_plan : Running → Seen → ℕ → ControlOperation → Plan
control_plan f seen next C.Branch = control.branch seen (header_of f) (line_of (segment_of f) f.block) next
control_plan f seen next C.Return = control.return seen (header_of f)
control_plan f seen next C.NoOperation = memory.no_operation seen next
control_plan f seen next C.Breakpoint = control.breakpoint
control_plan f seen next C.Attention = control.attention

abbrev pub jump_plan : Running → Seen → ℕ → Jump → ℕ → Plan
jump_plan f seen next J.Go place = control.go (header_of f) place
jump_plan f seen next J.GoTrue place = control.go_if seen (header_of f) next true place
jump_plan f seen next J.GoFalse place = control.go_if seen (header_of f) next false place

-- A function that is not in its directory is (3,1), before anything else is looked at: "CALL's counts as a fetch trap".
abbrev pub call_plan : Running → Seen → ℕ → ℕ → Bool → ℕ → Plan
call_plan f seen next arguments alternate number =
    stop_if (not (has_function (selected alternate f.program.regular f.program.alternate) number)) 3 1
    (control.call seen next (header_of_function (selected alternate f.program.regular f.program.alternate) number) alternate number arguments)

-- The plan of an instruction, after which stands the code place `next`. Numbers have as many bits as their fields.
unfoldable pub plan_of : Running → Seen → Instruction → ℕ → Plan
plan_of f seen (I.Load a) next = loads.load seen next (resolve seen (header_of f) a)
plan_of f seen (I.ShortConstant negative magnitude) next = loads.short_constant seen next (integer_word (bit negative) (magnitude % 2 ^ 12))
plan_of f seen (I.Scalar op) next = scalar_plan seen next op
plan_of f seen (I.Memory op a) next = memory_plan seen next op (resolve seen (header_of f) a)
plan_of f seen (I.Stack op) next = stack_plan seen next op
plan_of f seen (I.Array op) next = array_plan seen next op
plan_of f seen (I.Control op) next = control_plan f seen next op
plan_of f seen (I.Jump jump place) next = jump_plan f seen next jump place.0
plan_of f seen (I.ConstantScalar w) next = loads.constant_scalar seen next w
plan_of f seen (I.ConstantVector count first) next =
    loads.constant_vector seen next (words_from (count % 2 ^ 8) (code_in f) (first.0 % 2 ^ 16))
plan_of f seen (I.Call arguments alternate number) next = call_plan f seen next arguments alternate (number % 2 ^ 11)
plan_of f seen (I.Index rank) next = scalars.index seen next (rank % 2 ^ 4)

-- What is decoded at a place, planned by what it is under the table that is lent. A fetch trap comes first.
abbrev pub plan_decoded : Running → Seen → Result Decoded Trap → Plan
plan_decoded f seen (Ok d) = plan_of f seen (under_table f.program.table d.instruction) d.next.0
plan_decoded f seen (Err t) = trap t.class t.number

unfoldable pub plan_at : Running → Seen → ℕ → Plan
plan_at f seen place = plan_decoded f seen (instruction_at (code_in f) place)
