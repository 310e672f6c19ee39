-- What a run is lent beside its data segment: both procedure segments, and a table of operators in place of the manual's. Document 01,
-- "Procedure segment"; document 02, paper 5. A reader must believe: under a table a GENSCALAR instruction is that of the operator
-- which the table names, and every other instruction is what it is. Assumes nothing.
use Rattle.std.specs.Prelude.{ℕ, List}
use Rattle.operator.specs.Lent.{manual_table, named}
use Rattle.instruction.specs.declared.Instruction.{Instruction}
use Rattle.instruction.specs.declared.Instruction.TheVariants as I

pub record Program : Type 0 where
  pub regular : List ℕ
  pub alternate : List ℕ
  -- one operator for each suboperation in order, by its place in the manual's table from 0
  pub table : List ℕ

abbrev pub program : List ℕ → List ℕ → List ℕ → Program
program regular alternate table = record { regular = regular; alternate = alternate; table = table }

-- Where no table is lent, the manual's holds.
abbrev pub under_manual : List ℕ → List ℕ → Program
under_manual regular alternate = program regular alternate manual_table

-- What a decoded instruction is under a table.
abbrev pub under_table : List ℕ → Instruction → Instruction
under_table table (I.Scalar op) = I.Scalar (named table op)
under_table table (I.Load a) = I.Load a
under_table table (I.ShortConstant negative magnitude) = I.ShortConstant negative magnitude
under_table table (I.Memory op a) = I.Memory op a
under_table table (I.Stack op) = I.Stack op
under_table table (I.Array op) = I.Array op
under_table table (I.Control op) = I.Control op
under_table table (I.Jump jump place) = I.Jump jump place
under_table table (I.ConstantScalar w) = I.ConstantScalar w
under_table table (I.ConstantVector count first) = I.ConstantVector count first
under_table table (I.Call arguments alternate number) = I.Call arguments alternate number
under_table table (I.Index rank) = I.Index rank
