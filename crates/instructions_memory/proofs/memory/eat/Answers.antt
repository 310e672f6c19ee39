use native.Mathlib.Omega.{arith}
use Rattle.instructions_memory.proofs.Stacking.{eat-missing, eaten}
use Rattle.instructions_memory.proofs.memory.eat.Goals as goal

pub returns-then-count-lt1 : goal.returns-then-count-lt1
returns-then-count-lt1 c = eat-missing _ _ (omega arith)

pub returns : goal.returns
returns c = rw (c.jump.ensures, c.discard.ensures) (eaten _ _ (omega (arith, c.if-count-lt1.false, c.count.ensures)))
