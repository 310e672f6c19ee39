use Prim.Native.Nat.{◌≤◌, ◌-◌}
use mathlib.Core.Path.{◌≡◌}
use lib.ListN.{length}
use Rattle.manual.specs.Values.{cycle}
use Rattle.elements.proofs.Filling.{Filled, Rounds}
use Rattle.elements.proofs.copies.rounds.Given as goal

abbrev pub invariant-loop-i : goal.invariant-loop-i
invariant-loop-i l = (l.i ≤ l.n) × (l.n ≡ length l.initial.to) × (length l.to ≡ length l.initial.to) × Filled (cycle l.n l.from) l.initial.to l.to l.i × Rounds l.i l.n l.from

abbrev pub decreases-loop-i : goal.decreases-loop-i
decreases-loop-i l = l.n - l.i
