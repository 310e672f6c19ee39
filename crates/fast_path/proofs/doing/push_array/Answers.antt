use mathlib.Core.Path.{refl}
use native.Mathlib.Omega.{arith}
use Rattle.fast_path.proofs.Answers.{left, went}
use Rattle.fast_path.proofs.Pushing.{array-pushed}
use Rattle.fast_path.proofs.doing.push_array.Goals as goal

pub returns-then-room-lt1 : goal.returns-then-room-lt1
returns-then-room-lt1 c = λ t. λ held. left

pub returns : goal.returns
returns c = λ t. λ held. went refl (array-pushed _ _ t held (omega arith) c.replace_by_share.ensures c.jump.ensures)
