use Rattle.instructions_memory.proofs.Assigning.{assign-missing, assign_other, value-assigned}
use mathlib.Core.Path.{sym, ◌∙◌}
use native.Mathlib.Omega.{arith}
use Rattle.instructions_memory.proofs.memory.assign_to.Goals as goal

pub returns-then-count-lt1 : goal.returns-then-count-lt1
returns-then-count-lt1 c = λ cell. assign-missing _ _ _ cell (omega arith)

pub returns-in_default : goal.returns-in_default
returns-in_default c = λ cell. assign_other _ _ _ cell (omega (arith, c.if-count-lt1.false, c.count.ensures)) (rw (← c.operand_at-w.ensures) (sym c.value_of.ensures ∙ c.in_default.is))

pub returns : goal.returns
returns c = λ cell.
    rw (c.jump.ensures, c.store_share.ensures, c.operand_at-w.ensures)
    (value-assigned _ _ _ cell (omega (arith, c.if-count-lt1.false, c.count.ensures)) _ _ c.in-Some.is (rw (← c.operand_at-w.ensures) (sym c.value_of.ensures)))
