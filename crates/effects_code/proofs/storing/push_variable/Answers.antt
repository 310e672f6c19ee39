use native.Mathlib.Omega.{arith}
use Rattle.effects_code.proofs.Carrying.{replace-variable}
use Rattle.effects_code.proofs.storing.push_variable.Goals as goal

pub replace_by_share-requires : goal.replace_by_share-requires
replace_by_share-requires c = omega (arith, c.slice_known-1.given 0)

pub returns : goal.returns
returns c = rw (c.replace_by_share.ensures, c.held-w.ensures) (replace-variable _ _ _)
