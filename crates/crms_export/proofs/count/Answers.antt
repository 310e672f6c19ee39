use mathlib.Core.Path.{ap}
use lib.ListN.{length}
use Rattle.crms_export.proofs.Numbers.{elements-short}
use Rattle.crms_export.proofs.count.Goals as goal

pub returns : goal.returns
returns c = record { value = ap length c.elements.ensures; upper_bound = rw c.elements.ensures (elements-short _ _) }
