-- What a look answers is what is promised.
use Prim.Native.Nat.{ℕ}
use mathlib.Core.Path.{◌≡◌}
use mathlib.Core.List.{List}
use Rattle.std.proofs.Common.{Result}
use Rattle.operations.specs.declared.Looked.{Looked}
use Rattle.operations.specs.Look.{looked}
use Rattle.audit.specs.Calls as call
use Rattle.audit.specs.Did.{Promised}
use Rattle.audit.proofs.Look.{look-did}

pub promised : (s regular alternate : List ℕ) (g : ℕ) (answer : Result Looked ℕ) → answer ≡ looked s regular alternate g
    → (answer ≡ looked s regular alternate g) × Promised s (call.look (call.procedures regular alternate) g) (call.look_answer answer) s
unfolding Promised
promised s regular alternate g answer e = (e, λ words lent. rw e (look-did s (call.procedures regular alternate) g))
