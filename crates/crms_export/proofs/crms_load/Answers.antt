use mathlib.Core.Path.{◌∙◌}
use Rattle.crms_export.proofs.crms_load.Goals as goal

pub returns : goal.returns
returns c = record { value = c.status.ensures ∙ c.load.ensures.value; seg_after = c.load.ensures.seg_after }
