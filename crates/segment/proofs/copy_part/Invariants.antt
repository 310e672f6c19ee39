use Rattle.std.proofs.Common.{◌≡◌, ◌+◌, ◌-◌}
use Rattle.std.proofs.lemmas.List.Edits.{sets}
use Rattle.segment.specs.Blocks.{part}
use Rattle.segment.proofs.copy_part.Given as goal

abbrev pub invariant-loop-i : goal.invariant-loop-i
invariant-loop-i l = l.seg ≡ sets l.initial.seg l.to (part l.initial.seg l.from l.i)

abbrev pub invariant-loop-i-else-to-from : goal.invariant-loop-i-else-to-from
invariant-loop-i-else-to-from l = l.seg ≡ sets l.initial.seg (l.to + l.i) (part l.initial.seg (l.from + l.i) (l.n - l.i))
