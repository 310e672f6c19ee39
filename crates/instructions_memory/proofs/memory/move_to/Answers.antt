use Rattle.instructions_memory.proofs.Assigning.{move-missing, move-other, value-moved}
use mathlib.Core.Path.{sym, ◌∙◌}
use native.Mathlib.Omega.{arith}
use Rattle.instructions_memory.proofs.memory.move_to.Goals as goal

pub returns-then-count-lt1 : goal.returns-then-count-lt1
returns-then-count-lt1 c = λ cell. move-missing _ _ _ cell (omega arith)

pub returns-in_default : goal.returns-in_default
returns-in_default c = λ cell. move-other _ _ _ cell (omega (arith, c.if-count-lt1.false, c.count.ensures)) (rw (← c.operand_at-w.ensures) (sym c.value_of.ensures ∙ c.in_default.is))

pub returns : goal.returns
returns c = λ cell.
    rw (c.jump.ensures, c.discard.ensures, c.store_share.ensures, c.operand_at-w.ensures)
    (value-moved _ _ _ cell (omega (arith, c.if-count-lt1.false, c.count.ensures)) _ _ c.in-Some.is (rw (← c.operand_at-w.ensures) (sym c.value_of.ensures)))
