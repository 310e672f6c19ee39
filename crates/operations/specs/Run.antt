-- Run. Document 01's table: 10–18, and 26 of document 02, paper 5, "tested after 12"; then 2 and the steps where the number asked was
-- done, 3 and the steps at a trap. Assumes nothing.
use Rattle.std.specs.Prelude.{ℕ, cond, List, eqb, Result, Ok, Err}
use Rattle.operator.specs.Lent.{table_test}
use Rattle.procedure.specs.Refusal.{procedure_refusal}
use Rattle.acceptance.specs.Refusal.{length_test, data_refusal}
use Rattle.manual.specs.Program.{Program}
use Rattle.effects.specs.declared.Ran.{Ran}
use Rattle.effects.specs.Run.{RunResult, run_of}

pub record Ended : Type 0 where
  pub answer : Result Ran ℕ
  pub words : List ℕ

abbrev pub ended : Result Ran ℕ → List ℕ → Ended
ended answer s = record { answer = answer; words = s }

abbrev pub accepted_end : RunResult → Ended
accepted_end o = ended (Ok o.answer) o.words

unfoldable pub run_refusal : List ℕ → Program → ℕ
run_refusal s p =
    cond (length_test s)
    (cond (eqb (procedure_refusal p.regular p.alternate) 0)
    (cond (table_test p.table) (data_refusal s p.regular p.alternate) 26)
    (procedure_refusal p.regular p.alternate))
    10

unfoldable pub ran : List ℕ → Program → ℕ → Ended
ran s p budget = cond (eqb (run_refusal s p) 0) (accepted_end (run_of p s budget)) (ended (Err (run_refusal s p)) s)
