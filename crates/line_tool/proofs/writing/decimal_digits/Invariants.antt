use mathlib.Core.Path.{◌≡◌}
use lib.ListN.{length}
use Rattle.line_tool.proofs.Putting.{DigitsLeft}
use Rattle.line_tool.proofs.writing.decimal_digits.Given as goal

abbrev pub invariant-loop-at : goal.invariant-loop-at
invariant-loop-at l = (length l.digits ≡ 10) × DigitsLeft l.n l.digits l.rest l.at
