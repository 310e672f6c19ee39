-- What a sheet answers is what is promised.
use mathlib.Core.Path.{◌≡◌}
use mathlib.Core.List.{List}
use Prim.Native.Nat.{ℕ}
use Rattle.std.proofs.Common.{Result}
use Rattle.storage_sheet.specs.declared.Sheet.{Sheet}
use Rattle.operations.specs.Sheet.{sheeted}
use Rattle.audit.specs.Calls as call
use Rattle.audit.specs.Did.{Promised}
use Rattle.audit.proofs.Sheet.{sheet-did}

pub promised : (s regular alternate : List ℕ) (answer : Result Sheet ℕ) → answer ≡ sheeted s regular alternate
    → (answer ≡ sheeted s regular alternate) × Promised s (call.sheet (call.procedures regular alternate)) (call.sheet_answer answer) s
unfolding Promised
promised s regular alternate answer e = (e, λ words lent. rw e (sheet-did s (call.procedures regular alternate)))
