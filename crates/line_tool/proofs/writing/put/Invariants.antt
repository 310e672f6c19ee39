use Prim.Native.Nat.{◌+◌, ◌≤◌, max}
use mathlib.Core.Path.{◌≡◌}
use lib.ListN.{length, drop}
use Rattle.line_tool.proofs.Putting.{Putting}
use Rattle.line_tool.proofs.writing.put.Given as goal

abbrev pub invariant-loop-b : goal.invariant-loop-b
invariant-loop-b l =
    (l.to ≡ l.at + l.b-index) × (l.to ≤ max l.at (length l.initial.out)) × Putting l.text l.initial.out l.at (drop l.b-index l.text) l.out l.to
