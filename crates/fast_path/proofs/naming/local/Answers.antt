use mathlib.Core.Path.{refl}
use native.Mathlib.Omega.{arith}
use Rattle.fast_path.proofs.Standing.{local-stands}
use Rattle.fast_path.proofs.naming.local.Goals as goal

pub returns-then-variables-v : goal.returns-then-variables-v
returns-then-variables-v c = λ none. absurd (none refl)

pub returns : goal.returns
returns c = λ some. local-stands _ _ _ (omega arith) (omega arith) (cc)
