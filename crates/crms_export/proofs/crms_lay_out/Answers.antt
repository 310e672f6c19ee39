use mathlib.Core.Path.{◌∙◌}
use Rattle.crms_export.proofs.crms_lay_out.Goals as goal

pub returns : goal.returns
returns c = record { value = c.status.ensures ∙ c.lay_out.ensures.value; seg_after = c.lay_out.ensures.seg_after }
