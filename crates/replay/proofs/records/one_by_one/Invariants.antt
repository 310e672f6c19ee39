use Prim.Native.Nat.{◌-◌}
use mathlib.Core.Path.{◌≡◌}
use lib.ListN.{length}
use Rattle.manual.specs.Program.{program}
use Rattle.replay.specs.Tested.{Tested}
use Rattle.replay.proofs.Replaying.{From}
use Rattle.replay.proofs.records.one_by_one.Given as goal

abbrev pub invariant-loop-place : goal.invariant-loop-place
invariant-loop-place l =
    (length l.seg ≡ length l.initial.seg) × (length l.counts ≡ length l.initial.counts) × (length l.lengths ≡ 15) × (length l.ravel ≡ 16384)
    × (From (program l.regular l.alternate l.table) l.file l.place l.seg l.counts ≡ From (program l.regular l.alternate l.table) l.file 0 l.initial.seg l.initial.counts)
    × Tested l.tested l.seg l.regular l.alternate

abbrev pub decreases-loop-place : goal.decreases-loop-place
decreases-loop-place l =
    length l.file - l.place
