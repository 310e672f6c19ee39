use Prim.Native.Nat.{◌-◌}
use lib.ListN.{length}
use Rattle.acceptance.proofs.Descent.{Descent}
use Rattle.acceptance.proofs.cells.cells_from.Given as goal

abbrev pub invariant-frames : goal.invariant-frames
invariant-frames l =
    Descent l.seg l.regular l.alternate l.from l.upto l.initial.arrays l.arrays l.marks l.base l.top (length l.seg - l.counter)
