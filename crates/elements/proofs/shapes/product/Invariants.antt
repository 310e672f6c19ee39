use Prim.Native.Nat.{◌≤◌}
use lib.ListN.{length}
use Rattle.elements.proofs.Lengths.{Bounded}
use Rattle.elements.proofs.shapes.product.Given as goal

abbrev pub invariant-loop-n : goal.invariant-loop-n
invariant-loop-n l = (l.n-index ≤ length l.lengths) × Bounded l.lengths l.so_far l.n-index
