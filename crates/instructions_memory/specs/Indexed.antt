-- What ASSIGN_INDEXED knows before it looks for the element, and what it comes to: no contract of a public function speaks of it.
-- Assumes nothing.
use Rattle.std.specs.Prelude.{ℕ, ◌+◌, ◌≤◌, ◌≡◌, true, List, take, Some, Result}
use Rattle.trap.specs.declared.Trap.{Trap}
use Rattle.descriptor.specs.declared.address.SegmentAddress.{SegmentAddress}
use Rattle.descriptor.specs.declared.Target.{Target}
use Rattle.manual.specs.OrTrap.{gives}
use Rattle.manual.specs.Seen.{at}
use Rattle.manual.specs.Scalars.{operands}
use Rattle.manual.specs.Memory.{assign_indexed}
use Rattle.effects.specs.Sources.{held_at}
use Rattle.effects.specs.Seen.{read, temporaries, seen}
use Rattle.effects.specs.Carried.{CarriesOut}
use Rattle.effects.specs.declared.Outcome.{Outcome}
use Rattle.operands.specs.declared.reading.Value.TheVariants as values
use Rattle.operands.specs.Operands.{operand_of}
use Rattle.operands.specs.Taken.{taken_of}

-- The variable holds the array of that block; the subscripts, and after them the value, are operands, scalars all of them.
pub record Indexed (s : List ℕ) (rank : ℕ) (t : Target) (block : SegmentAddress) (words : List ℕ) : Type 0 where
  pub array : operand_of s (held_at s t) ≡ Some (values.Array block)
  pub enough : rank + 1 ≤ temporaries s
  pub scalars : taken_of true (operands (seen s) 0 (rank + 1)) ≡ gives (take (rank + 1) words)

-- From the variable at `t`, which holds `w`.
abbrev pub AssignsIndexed : List ℕ → Result Outcome Trap → List ℕ → ℕ → ℕ → Target → ℕ → Type 0
AssignsIndexed s outcome after next rank t w =
    CarriesOut s outcome after (λ sees. assign_indexed sees next rank (gives (at t (read s w))))
