use Prim.Native.Nat.{◌-◌}
use lib.ListN.{length}
use Rattle.storage_sheet.proofs.Adding.{Adding}
use Rattle.storage_sheet.proofs.add_up.Given as goal

abbrev pub invariant-walk : goal.invariant-walk
invariant-walk l = Adding l.seg l.from l.stop l.arrays l.slop l.free l.a (length l.seg - l.counter)
