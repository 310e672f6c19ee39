use mathlib.Core.Path.{sym, ◌∙◌}
use native.Mathlib.Omega.{arith}
use Rattle.fast_path.proofs.Answers.{left, went}
use Rattle.fast_path.proofs.Operating.{eaten, scalar-eaten}
use Rattle.fast_path.proofs.doing.eat.Goals as goal

pub returns-then-count-lt1 : goal.returns-then-count-lt1
returns-then-count-lt1 c = left

pub returns-then-is_scalar : goal.returns-then-is_scalar
returns-then-is_scalar c = went c.go.ensures.0 (scalar-eaten _ (omega arith) c.operand_at.ensures (sym c.is_scalar.ensures ∙ c.if-is_scalar.true) _ c.discard.ensures c.go.ensures.1)

pub returns : goal.returns
returns c = went c.go-2.ensures.0 (eaten _ (omega arith) _ c.discard-2.ensures c.go-2.ensures.1)
