use Prim.Native.Nat.{◌≤◌}
use mathlib.Core.Path.{refl, sym, subst, ◌∙◌}
use Rattle.fast_path.proofs.Answers.{left, went}
use Rattle.fast_path.proofs.Operating.{scalar-computed}
use Rattle.fast_path.proofs.doing.monadic.Goals as goal

pub returns-then-count-lt1 : goal.returns-then-count-lt1
returns-then-count-lt1 c = left

pub returns-then-not-is_scalar : goal.returns-then-not-is_scalar
returns-then-not-is_scalar c = left

pub returns-in-Err : goal.returns-in-Err
returns-in-Err c = left

pub returns-in-Ok : goal.returns-in-Ok
returns-in-Ok c = went refl (scalar-computed _ (subst (◌≤◌ 1) c.count.ensures c.if-count-lt1.false) c.operand_at-x.ensures (sym c.is_scalar.ensures ∙ c.if-not-is_scalar.false) _ _ c.monadic.ensures c.in-Ok.is c.replace.ensures c.jump.ensures)
