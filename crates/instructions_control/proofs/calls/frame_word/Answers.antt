use native.Mathlib.Omega.{arith}
use Rattle.instructions_control.proofs.calls.frame_word.Goals as goal

pub returns-then-selector : goal.returns-then-selector
returns-then-selector c = simp c.if-selector.true

pub returns : goal.returns
returns c = simp c.if-selector.false (omega arith)
