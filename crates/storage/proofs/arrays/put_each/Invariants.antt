use Rattle.std.proofs.Common.{◌≡◌}
use Rattle.std.proofs.lemmas.List.Edits.{sets}
use Rattle.segment.specs.Blocks.{part}
use Rattle.storage.proofs.arrays.put_each.Given as goal

abbrev pub invariant-loop-i : goal.invariant-loop-i
invariant-loop-i l = l.seg ≡ sets l.initial.seg l.at (part l.words 0 l.i)
