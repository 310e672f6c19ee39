use native.Mathlib.Omega.{arith}
use Rattle.fast_path.proofs.Going.{whole-jumped}
use Rattle.fast_path.proofs.doing.jump.Goals as goal

pub returns : goal.returns
returns c = whole-jumped _ _ (omega arith) (cc)
