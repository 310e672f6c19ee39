use mathlib.Core.Path.{◌≡◌}
use Rattle.std.proofs.lemmas.List.Edits.{sets}
use Rattle.segment.specs.Blocks.{part}
use Rattle.segment.proofs.copy.Given as goal

abbrev pub invariant-loop-i : goal.invariant-loop-i
invariant-loop-i l = l.to ≡ sets l.initial.to 0 (part l.from 0 l.i)
