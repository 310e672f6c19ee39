-- Tests 10–18 pass exactly where a segment is what document 01 wants: for those who would rather read that structure, `Accepted`
-- of acceptance/specs/Structure, than the tests. The demands speak of the tests alone. Proved in proofs/Accepts. Assumes nothing.
use Rattle.std.specs.Prelude.{ℕ, ◌↔◌, List}
use Rattle.acceptance.specs.Structure.{Accepted}
use Rattle.audit.specs.Calls.{Procedures, Passes}

pub record Accepts : Type 0 where
  pub accepted : (s : List ℕ) (p : Procedures) → Passes s p ↔ Accepted s p.regular p.alternate
