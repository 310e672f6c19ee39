use native.Mathlib.Omega.{arith}
use Rattle.instructions_memory.proofs.Pushing.{push-full, word-pushed}
use Rattle.instructions_memory.proofs.loads.push_word.Goals as goal

pub returns-then-room-lt1 : goal.returns-then-room-lt1
returns-then-room-lt1 c = push-full _ _ _ (omega arith)

pub returns : goal.returns
returns c = rw (c.jump.ensures, c.replace_by_word.ensures) (word-pushed _ _ _ (omega (arith, c.if-room-lt1.false, c.room.ensures)))
