use mathlib.Core.Path.{◌≡◌}
use lib.ListN.{length}
use Rattle.imports.proofs.Several.{Reading}
use Rattle.imports.proofs.number.numbers_at.Given as goal

abbrev pub invariant-loop-word : goal.invariant-loop-word
invariant-loop-word l = (length l.out ≡ length l.initial.out) × Reading l.limit (length l.initial.out) l.file l.place l.out l.at l.word-index
