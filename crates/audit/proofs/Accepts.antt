-- Tests 10–18 pass exactly where the segment is the structure `Accepted`: the proofs take it apart, the demands name the tests.
use Prim.Native.Nat.{ℕ}
use mathlib.Core.Path.{sym, ◌∙◌}
use mathlib.Core.List.{List}
use Rattle.acceptance.specs.Structure.{Accepted}
use Rattle.acceptance.proofs.Structure.{structure}
use Rattle.audit.specs.Calls.{Procedures, Passes}
use Rattle.audit.specs.Accepts.{Accepts}
use Rattle.audit.proofs.Tests.{segment-told}

module _ (s : List ℕ) (p : Procedures) where
  pub accepted-of : Passes s p → Accepted s p.regular p.alternate
  accepted-of e = structure.sound s p.regular p.alternate (sym (segment-told s p) ∙ e)

  pub passes_of : Accepted s p.regular p.alternate → Passes s p
  passes_of a = segment-told s p ∙ structure.complete s p.regular p.alternate a

pub accepts : Accepts
accepts = record { accepted = λ s p. (accepted-of s p, passes_of s p) }
