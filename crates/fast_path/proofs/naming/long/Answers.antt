use Prim.Native.Nat.{ℕ, ◌%◌, ◌^◌}
use mathlib.Core.Path.{refl, ap}
use Rattle.fast_path.proofs.Standing.{local-names, global-names}
use Rattle.fast_path.proofs.naming.long.Goals as goal

pub returns-then-code-at : goal.returns-then-code-at
returns-then-code-at c = λ none. absurd (none refl)

pub returns-in-LongLocal : goal.returns-in-LongLocal
returns-in-LongLocal c = λ some. local-names _ _ _ _ c.if-code-at.false (ap (λ (n : ℕ). n % 2 ^ 12) c.half.ensures) _ c.in-LongLocal.is (c.local.ensures some)

pub returns-in-LongGlobal : goal.returns-in-LongGlobal
returns-in-LongGlobal c = λ some. global-names _ _ _ _ c.if-code-at.false (ap (λ (n : ℕ). n % 2 ^ 12) c.half-in-LongGlobal.ensures) _ c.in-LongGlobal.is (c.global.ensures some)

pub returns-in_default : goal.returns-in_default
returns-in_default c = λ none. absurd (none refl)
