use Prim.Native.Nat.{◌≤◌}
use mathlib.Core.Path.{refl, sym, subst, ◌∙◌}
use Rattle.fast_path.proofs.Operating.{scalars-combined}
use Rattle.fast_path.proofs.Answers.{left, went}
use Rattle.fast_path.proofs.doing.dyadic.Goals as goal

pub returns-then-count-lt2 : goal.returns-then-count-lt2
returns-then-count-lt2 c = left

pub returns-then-not-is_scalar : goal.returns-then-not-is_scalar
returns-then-not-is_scalar c = left

pub returns-then-not-is_scalar-2 : goal.returns-then-not-is_scalar-2
returns-then-not-is_scalar-2 c = left

pub returns-in-Err : goal.returns-in-Err
returns-in-Err c = left

pub returns-in-Ok : goal.returns-in-Ok
returns-in-Ok c = went refl (scalars-combined _ (subst (◌≤◌ 2) c.count.ensures c.if-count-lt2.false) c.operand_at-x.ensures (sym c.is_scalar.ensures ∙ c.if-not-is_scalar.false) c.operand_at-y.ensures (sym c.is_scalar-2.ensures ∙ c.if-not-is_scalar-2.false) _ _ c.dyadic.ensures c.in-Ok.is c.replace.ensures c.jump.ensures)
