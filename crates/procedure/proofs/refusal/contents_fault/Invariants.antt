use Rattle.procedure.specs.Faults.{functions_fault}
use Prim.Native.Nat.{◌-◌}
use mathlib.Core.Path.{◌≡◌}
use Rattle.procedure.proofs.refusal.contents_fault.Given as goal

abbrev pub invariant-loop-k : goal.invariant-loop-k
invariant-loop-k l = functions_fault (l.k-end - l.k) l.p l.k ≡ functions_fault (l.k-end - 1) l.p 1
