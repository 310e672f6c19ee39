use mathlib.Core.Path.{◌≡◌}
use lib.ListN.{length}
use Rattle.operands.proofs.Scalars.{Stored}
use Rattle.operands.proofs.taken.take_words.Given as goal

abbrev pub invariant-loop-k : goal.invariant-loop-k
invariant-loop-k l = (length l.out ≡ length l.initial.out) × Stored l.seg l.i l.n l.out l.k
