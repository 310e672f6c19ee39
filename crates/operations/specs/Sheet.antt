-- Sheet: where the words of array storage went. Document 02, paper 3: tests 10–18, then the five counts; "A refused segment prints
-- `refused` and its number." Nothing is changed. Assumes nothing.
use Rattle.std.specs.Prelude.{ℕ, cond, List, eqb, Result, Ok, Err}
use Rattle.acceptance.specs.Refusal.{refusal}
use Rattle.storage_sheet.specs.Sheet.{sheet_of}
use Rattle.storage_sheet.specs.declared.Sheet.{Sheet}

unfoldable pub sheeted : List ℕ → List ℕ → List ℕ → Result Sheet ℕ
sheeted s regular alternate = cond (eqb (refusal s regular alternate) 0) (Ok (sheet_of s)) (Err (refusal s regular alternate))
