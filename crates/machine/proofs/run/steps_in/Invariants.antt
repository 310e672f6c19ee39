use Prim.Native.Nat.{◌≤◌, ◌-◌, ◌/◌, ◌%◌, ◌^◌}
use mathlib.Core.Path.{◌≡◌}
use lib.ListN.{length}
use Rattle.segment.specs.State.{lbase}
use Rattle.segment.specs.Stack.{code_word_at}
use Rattle.machine.specs.Lent.{program_of}
use Rattle.machine.specs.Resuming.{whole}
use Rattle.machine.proofs.run.steps_in.Given as goal

abbrev pub invariant-loop-steps : goal.invariant-loop-steps
invariant-loop-steps l =
    (l.start ≤ l.steps) × (l.steps ≤ l.budget) × (length l.seg ≡ length l.initial.seg) × (length l.scratch ≡ length l.initial.scratch)
    × (l.steps ≡ l.start → code_word_at l.seg (lbase l.seg) / 2 ^ 16 % 2 ^ 12 ≡ l.function)
    × (length l.counts ≡ length l.initial.counts)
    × (whole (l.budget - l.steps) l.steps (program_of l.f.program.now) l.counts l.seg ≡ whole (l.budget - l.start) l.start (program_of l.f.program.now) l.initial.counts l.initial.seg)

abbrev pub decreases-loop-steps : goal.decreases-loop-steps
decreases-loop-steps l =
    l.budget - l.steps
