use Rattle.crms_export.proofs.Numbers.{replay-told}
use native.Mathlib.Omega.{arith}
use Rattle.crms_export.proofs.crms_replay.Goals as goal

pub returns : goal.returns
returns c =
    let e = c.manual_table-table.ensures in
    let r = c.replay_into.ensures in
    let answer = replay-told _ _ _ _ c.replay_number.ensures
    (rw e at r.value, (rw e at r.seg_after, rw e at r.counts_after)) (omega arith) in record { value = answer.0; seg_after = answer.1.0; tally_after = answer.1.1 }
