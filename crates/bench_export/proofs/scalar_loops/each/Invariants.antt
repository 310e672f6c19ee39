use Rattle.std.proofs.Common.{◌≡◌, ◌≤◌, length}
use Rattle.bench_export.proofs.scalar_loops.each.Given as goal

abbrev pub invariant-loop-i : goal.invariant-loop-i
invariant-loop-i g l = (l.traps ≤ l.i) × (length l.out ≡ length l.a)
