use native.Mathlib.Omega.{arith}
use Rattle.instructions_memory.proofs.Stacking.{interchange-missing, interchanged}
use Rattle.instructions_memory.proofs.memory.interchange.Goals as goal

pub returns-then-count-lt2 : goal.returns-then-count-lt2
returns-then-count-lt2 c = interchange-missing _ _ (omega arith)

pub returns : goal.returns
returns c = rw (c.jump.ensures, c.swap.ensures) (interchanged _ _ (omega (arith, c.if-count-lt2.false, c.count.ensures)))
