use Prim.Native.Nat.{◌≤◌, ◌-◌}
use mathlib.Core.Path.{◌≡◌}
use lib.ListN.{length}
use Rattle.machine.specs.Lent.{program_of}
use Rattle.machine.specs.Resuming.{whole}
use Rattle.machine.proofs.run.steps_up_to.Given as goal

abbrev pub invariant-loop-done : goal.invariant-loop-done
invariant-loop-done l =
    (l.done ≤ l.budget) × (length l.seg ≡ length l.initial.seg) × (length l.counts ≡ length l.initial.counts) × (length l.scratch ≡ length l.initial.scratch)
    × (whole (l.budget - l.done) l.done (program_of l.program) l.counts l.seg ≡ whole l.budget 0 (program_of l.program) l.initial.counts l.initial.seg)

abbrev pub decreases-loop-done : goal.decreases-loop-done
decreases-loop-done l =
    l.budget - l.done
