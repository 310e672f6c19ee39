use Rattle.std.proofs.Common.{◌≤◌, length}
use Rattle.engine_cases.proofs.lines.numbers_of.Given as goal

abbrev pub invariant-loop-digits : goal.invariant-loop-digits
invariant-loop-digits l = l.count ≤ length l.numbers
