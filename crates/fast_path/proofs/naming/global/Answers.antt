use mathlib.Core.Path.{refl}
use native.Mathlib.Omega.{arith}
use Rattle.fast_path.proofs.Standing.{global-stands}
use Rattle.fast_path.proofs.naming.global.Goals as goal

pub returns-then-g-lt8 : goal.returns-then-g-lt8
returns-then-g-lt8 c = λ none. absurd (none refl)

pub returns-then-number-g : goal.returns-then-number-g
returns-then-number-g c = λ none. absurd (none refl)

pub returns : goal.returns
returns c = λ some. global-stands _ _ (omega arith) (omega arith) refl
