use Rattle.fast_path.proofs.Answers.{left, went}
use Prim.Native.Nat.{◌≤◌}
use mathlib.Core.Path.{refl, subst}
use Rattle.fast_path.proofs.Pushing.{word-pushed}
use Rattle.fast_path.proofs.doing.push.Goals as goal

pub returns-then-room-lt1 : goal.returns-then-room-lt1
returns-then-room-lt1 c = left

pub returns : goal.returns
returns c = went refl (word-pushed _ _ _ (subst (◌≤◌ 1) c.room.ensures c.if-room-lt1.false) c.replace_by_word.ensures c.jump.ensures)
