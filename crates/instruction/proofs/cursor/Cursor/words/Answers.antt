use native.Mathlib.Omega.{arith}
use Rattle.instruction.proofs.Words.{words-outside, words_inside}
use Rattle.instruction.proofs.cursor.Cursor.words.Goals as goal

pub returns-in_err-checked_sub : goal.returns-in_err-checked_sub
returns-in_err-checked_sub c = rw c.from_residual.ensures (words-outside _ _ _ (omega (arith, c.in_err-checked_sub.ensures)))

pub returns-then-branch-need : goal.returns-then-branch-need
returns-then-branch-need c = words-outside _ _ _ (omega (arith, c.in_ok-checked_sub.ensures))

pub returns : goal.returns
returns c = words_inside _ _ _ _ _ (omega arith) (omega arith) (omega (arith, c.in_ok-checked_sub.ensures))
