use mathlib.Core.Path.{ap}
use lib.ListN.{length}
use Rattle.crms_export.proofs.Numbers.{shape-short}
use Rattle.crms_export.proofs.rank.Goals as goal

pub returns : goal.returns
returns c = record { value = ap length c.lengths.ensures; upper_bound = rw c.lengths.ensures (shape-short _ _) }
