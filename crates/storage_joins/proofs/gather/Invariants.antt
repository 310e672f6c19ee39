use mathlib.Core.Path.{◌≡◌}
use lib.Seq.{sets}
use Rattle.segment.specs.Blocks.{part}
use Rattle.storage_joins.proofs.gather.Given as goal

abbrev pub invariant-loop-i : goal.invariant-loop-i
invariant-loop-i l = l.out ≡ sets l.initial.out l.at (part l.seg l.start l.i)
