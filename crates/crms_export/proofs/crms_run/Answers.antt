use Rattle.crms_export.proofs.Numbers.{run-told}
use Rattle.crms_export.proofs.crms_run.Goals as goal

pub returns : goal.returns
returns c = let answer = run-told _ _ _ _ c.run_number.ensures c.run.ensures.seg_after in record { value = answer.0; seg_after = answer.1 }
