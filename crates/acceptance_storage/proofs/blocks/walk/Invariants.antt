use Prim.Native.Nat.{◌-◌}
use mathlib.Core.Path.{◌≡◌}
use lib.ListN.{length}
use Rattle.acceptance_storage.proofs.Walk.{Walking}
use Rattle.acceptance_storage.proofs.blocks.walk.Given as goal

abbrev pub invariant-loop-a : goal.invariant-loop-a
invariant-loop-a l =
    (length l.arrays ≡ length l.initial.arrays) × (length l.frees ≡ length l.initial.frees) × Walking l.seg l.arrays l.frees l.a l.before l.found

abbrev pub decreases-loop-a : goal.decreases-loop-a
decreases-loop-a l = l.end - l.a
