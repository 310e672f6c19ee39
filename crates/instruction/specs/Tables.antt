-- The manual's tables of the MEMREF and the ETC suboperations. GENSCALAR's stands in operator/specs/Table.
-- A reader must believe: the tables are the manual's. Assumes nothing.
use Rattle.std.specs.Prelude.{ℕ, cond, [], ◌∷◌, leb, eqb, Option, Some, None}
use Rattle.operator.specs.Table.{lookup}
use Rattle.instruction.specs.declared.MemoryOperation.{MemoryOperation}
use Rattle.instruction.specs.declared.MemoryOperation.TheVariants.{AssignIndexed, Assign, AssignNoResult, Reference, TestDefined}
use Rattle.instruction.specs.declared.StackOperation.TheVariants as S
use Rattle.instruction.specs.declared.ArrayOperation.TheVariants as A
use Rattle.instruction.specs.declared.ControlOperation.TheVariants as C
use Rattle.instruction.specs.declared.Jump.TheVariants as J
use Rattle.instruction.specs.declared.table.EtcSuboperation.{EtcSuboperation}
use Rattle.instruction.specs.declared.table.EtcSuboperation.TheVariants.{Stack, Array, Control, Jump as Go, ConstantScalar, ConstantVector, Call}

-- MEMREF: 1 to 15 are ASSIGN_INDEXED of that rank; 0 is undefined too.
unfoldable pub memory_of : ℕ → Option MemoryOperation
memory_of s =
    cond (eqb s 0) None
    (cond (leb s 15) (Some (AssignIndexed s))
    (lookup s
    ((16, Some Assign)
    ∷ (17, Some AssignNoResult)
    ∷ (18, Some Reference)
    ∷ (19, Some TestDefined)
    ∷ [])
    None))

unfoldable pub etc_of : ℕ → Option EtcSuboperation
etc_of s =
    lookup s
    ((0, Some (Stack S.Undefined))
    ∷ (1, Some (Stack S.Eat1))
    ∷ (2, Some (Stack S.Interchange))
    ∷ (3, Some (Stack S.SetOrigin))
    ∷ (4, Some (Stack S.GetOrigin))
    ∷ (5, Some (Array A.Shape))
    ∷ (6, Some (Array A.Reshape))
    ∷ (7, Some (Array A.Ravel))
    ∷ (8, Some (Array A.Catenate))
    ∷ (9, Some (Array A.IndexGenerator))
    ∷ (10, Some ConstantScalar)
    ∷ (11, Some ConstantVector)
    ∷ (12, Some (Control C.Branch))
    ∷ (13, Some (Go J.Go))
    ∷ (14, Some (Go J.GoTrue))
    ∷ (15, Some (Go J.GoFalse))
    ∷ (16, Some (Control C.Return))
    ∷ (17, Some Call)
    ∷ (18, Some (Control C.NoOperation))
    ∷ (19, Some (Control C.Breakpoint))
    ∷ (20, Some (Control C.Attention))
    ∷ [])
    None
