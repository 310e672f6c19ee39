-- The table's number for each answer of the code; 0 where all tests pass. Assumes nothing.
use Rattle.std.specs.Prelude.{ℕ, Result, Ok, Err, ⊤}
use Rattle.procedure.specs.declared.refusal.Refusal.{Refusal}
use Rattle.procedure.specs.declared.refusal.Refusal.TheVariants as R
use Rattle.acceptance.specs.declared.Test.{Test}
use Rattle.acceptance.specs.declared.Test.TheVariants as T

abbrev pub number_of_test : Test → ℕ
number_of_test T.Length = 10
number_of_test T.ProcedureLength = 11
number_of_test T.Procedures = 12
number_of_test T.StateWords = 13
number_of_test T.Blocks = 14
number_of_test T.Ring = 15
number_of_test T.Frames = 16
number_of_test T.Cells = 17
number_of_test T.Counts = 18

-- The test that refuses the procedure segments.
abbrev pub test_of : Refusal → Test
test_of R.Length = T.ProcedureLength
test_of R.Contents = T.Procedures

abbrev pub judgement_number : Result ⊤ Test → ℕ
judgement_number (Ok accepted) = 0
judgement_number (Err test) = number_of_test test
