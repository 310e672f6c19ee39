-- A sheet does what `Did` says.
use Prim.Native.Nat.{ℕ}
use mathlib.Core.Path.{◌≡◌, ◌∙◌}
use mathlib.Core.Logic.{◌≢◌}
use mathlib.Core.List.{List}
use borrow.Author.Tests.{eq-eqb, ne_eqb}
use Rattle.acceptance_storage.proofs.Tests.{by-eq}
use Rattle.acceptance.specs.Refusal.{refusal}
use Rattle.storage_sheet.specs.Sheet.{sheet_of}
use Rattle.std.proofs.Common.{Result, Ok, Err}
use Rattle.storage_sheet.specs.declared.Sheet.{Sheet}
use Rattle.operations.specs.Sheet.{sheeted}
use Rattle.audit.specs.Calls.{Procedures, sheet, sheet_answer}
use Rattle.audit.specs.Did.{Did, is_refused, has_summed}
use Rattle.audit.proofs.Tests.{segment-told}

module _ (s : List ℕ) (p : Procedures) where
  abbrev number : ℕ
  number = refusal s p.regular p.alternate

  abbrev SheetDid : Result Sheet ℕ → Type 0
  SheetDid a = Did s (sheet p) (sheet_answer a) s

  sheet-summed : number ≡ 0 → sheeted s p.regular p.alternate ≡ Ok (sheet_of s)
  unfolding sheeted
  sheet-summed e = simp (eq-eqb number 0 e)

  sheet-refused : number ≢ 0 → sheeted s p.regular p.alternate ≡ Err number
  unfolding sheeted
  sheet-refused h = simp (ne_eqb number 0 h)

  pub sheet-did : SheetDid (sheeted s p.regular p.alternate)
  sheet-did =
      by-eq number 0 (λ e. rw (sheet-summed e) (has_summed (segment-told s p ∙ e)))
      (λ h. rw (sheet-refused h) (is_refused h (segment-told s p)))
