-- A turn ends at a later place, so what is left to the end of the code falls.
use Prim.Native.Nat.{◌-◌}
use Rattle.disasm.proofs.listing.instructions.Given as goal

abbrev pub invariant-loop-r : goal.invariant-loop-r
invariant-loop-r l = Unit {0}

abbrev pub decreases-loop-r : goal.decreases-loop-r
decreases-loop-r l = l.end - l.r.place.0
