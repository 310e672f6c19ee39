use native.Mathlib.Omega.{arith}
use mathlib.Core.Path.{◌∙◌}
use Rattle.operands.proofs.Resolving.{local-outside, local-inside}
use Rattle.operands.proofs.variables.resolve_local.Goals as goal

pub returns-then-v-lt1 : goal.returns-then-v-lt1
returns-then-v-lt1 c = local-outside _ _ _ c.then-v-lt1.either

pub returns : goal.returns
returns c = c.follow.ensures ∙ local-inside _ _ _ _ (omega arith) (omega arith) (omega arith)
