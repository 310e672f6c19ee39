-- A call of one of the four operations or of the sheet, what it answers, and the table of document 01: "Tests go in table order, save
-- that 20 comes before 19; lay out omits 13–18"; 26 of document 02, paper 5, is "tested after 12". A reader must believe: each test is
-- the sentence of its number. Assumes nothing.
use Rattle.std.specs.Prelude.{ℕ, ◌≡◌, Bool, cond, not, ◌&&◌, ◌||◌, List, [], ◌∷◌, ◌++◌, eqb, length, Result, Ok, Err}
use Rattle.descriptor.specs.declared.Target.TheVariants.{Global}
use Rattle.descriptor.specs.Kinds.{segment}
use Rattle.operator.specs.Lent.{table_test}
use Rattle.procedure.specs.Refusal.{segment_length_test, contents_test}
use Rattle.segment.specs.Blocks.{need}
use Rattle.segment.specs.Cells.{Cell, undefined}
use Rattle.segment.specs.View.{view}
use Rattle.segment.specs.Lent.{Words, Bytes}
use Rattle.acceptance_storage.specs.Head.{head_test}
use Rattle.acceptance_storage.specs.Blocks.{blocks_test}
use Rattle.acceptance_storage.specs.Ring.{ring_test}
use Rattle.acceptance_storage.specs.Room.{long_enough}
use Rattle.acceptance.specs.Frames.{frames_test}
use Rattle.acceptance.specs.Cells.{cells_test}
use Rattle.acceptance.specs.Counts.{counts_test}
use Rattle.acceptance.specs.Refusal.{length_test}
use Rattle.storage_sheet.specs.declared.Sheet.{Sheet}
use Rattle.manual.specs.Effects as manual
use Rattle.manual.specs.Program.{Program}
use Rattle.manual.specs.Loads.{is_undefined}
use Rattle.fresh_segment.specs.LayOut.{Layout, function_test, parts_test}
use Rattle.effects.specs.declared.Ran.{Ran}
use Rattle.effects.specs.declared.Ran.TheVariants as R
use Rattle.operations.specs.declared.Looked.{Looked}
use Rattle.operations.specs.declared.Looked.TheVariants as L
use Rattle.operations.specs.Load.{is_global, is_value}

pub record Procedures : Type 0 where
  pub regular : List ℕ
  pub alternate : List ℕ

abbrev pub procedures : List ℕ → List ℕ → Procedures
procedures regular alternate = record { regular = regular; alternate = alternate }

abbrev pub procedures_of : Program → Procedures
procedures_of p = procedures p.regular p.alternate

pub data Call : Type 0 where
  lay_out : Procedures → Layout → Call
  -- under a table of operators, with a budget
  run : Program → ℕ → Call
  -- into a global, by lengths and elements
  load : Procedures → ℕ → List ℕ → List ℕ → Call
  look : Procedures → ℕ → Call
  sheet : Procedures → Call

-- What a call answers: the number of the test that refused it; 0 of a lay out and of a load; 2 and 3 of a run, with the number
-- of finished instructions; of a look a scalar's word, or the block whose lengths and elements are handed back; of a sheet its sums.
pub data Answer : Type 0 where
  refused : ℕ → Answer
  done : Answer
  ran : ℕ → Answer
  trapped : ℕ → Answer
  scalar : ℕ → Answer
  array : ℕ → Answer
  summed : Sheet → Answer

-- The answers of the definitions.
abbrev pub answer_of : Result (Unit {0}) ℕ → Answer
answer_of (Ok nothing) = done
answer_of (Err number) = refused number

abbrev pub run_answer : Result Ran ℕ → Answer
run_answer (Ok (R.Done steps)) = ran steps
run_answer (Ok (R.Trapped steps)) = trapped steps
run_answer (Err number) = refused number

abbrev pub look_answer : Result Looked ℕ → Answer
look_answer (Ok (L.Scalar w)) = scalar w
look_answer (Ok (L.Array block)) = array block.0
look_answer (Err number) = refused number

abbrev pub sheet_answer : Result Sheet ℕ → Answer
sheet_answer (Ok sums) = summed sums
sheet_answer (Err number) = refused number

-- ---- the table

pub record Test : Type 0 where
  pub number : ℕ
  pub passes : Bool

abbrev pub test : ℕ → Bool → Test
test number passes = record { number = number; passes = passes }

-- The number of the first test that fails; 0 where all pass.
abbrev pub first_failed : List Test → ℕ
first_failed [] = 0
first_failed (x ∷ tests) = cond x.passes (first_failed tests) x.number

abbrev pub lent_tests : List ℕ → Procedures → List Test
lent_tests s p =
    test 10 (length_test s)
    ∷ test 11 (segment_length_test p.regular && segment_length_test p.alternate)
    ∷ test 12 (contents_test p.regular && contents_test p.alternate)
    ∷ []

abbrev pub data_tests : List ℕ → Procedures → List Test
data_tests s p =
    test 13 (head_test s)
    ∷ test 14 (blocks_test s)
    ∷ test 15 (ring_test s)
    ∷ test 16 (frames_test s p.regular p.alternate)
    ∷ test 17 (cells_test s p.regular p.alternate)
    ∷ test 18 (counts_test s)
    ∷ []

abbrev pub segment_tests : List ℕ → Procedures → List Test
segment_tests s p = lent_tests s p ++ data_tests s p

-- Tests 10–18 pass: the segment is accepted. specs/Accepts says the same as a structure.
abbrev pub Passes : List ℕ → Procedures → Type 0
Passes s p = first_failed (segment_tests s p) ≡ 0

-- The value of a global.
abbrev pub global_value : List ℕ → ℕ → Cell
global_value s g = manual.look undefined (Global (segment g)) (view s)

-- What a load asks for finds a free block: a scalar asks for none.
abbrev pub has_room : List ℕ → List ℕ → List ℕ → Bool
has_room s lengths ravel = eqb (length lengths) 0 || long_enough s (need lengths ravel)

abbrev pub tests : List ℕ → Call → List Test
tests s (lay_out p l) =
    lent_tests s p ++ (test 20 (function_test p.regular p.alternate l) ∷ test 19 (parts_test s p.regular p.alternate l) ∷ [])
tests s (run p budget) = lent_tests s (procedures_of p) ++ (test 26 (table_test p.table) ∷ data_tests s (procedures_of p))
tests s (load p g lengths ravel) =
    segment_tests s p ++ (test 21 (is_global s g) ∷ test 23 (is_value lengths ravel) ∷ test 24 (has_room s lengths ravel) ∷ [])
tests s (look p g) = segment_tests s p ++ (test 21 (is_global s g) ∷ test 22 (not (is_undefined (global_value s g))) ∷ [])
tests s (sheet p) = segment_tests s p

-- ---- what a call brings: bytes and 32-bit words, as their types say in code

abbrev pub LentProcedures : Procedures → Type 0
LentProcedures p = Bytes p.regular × Bytes p.alternate

abbrev pub LentCall : Call → Type 0
LentCall (lay_out p l) = LentProcedures p
LentCall (run p budget) = LentProcedures (procedures_of p)
LentCall (load p g lengths ravel) = LentProcedures p × Words lengths × Words ravel
LentCall (look p g) = LentProcedures p
LentCall (sheet p) = LentProcedures p
