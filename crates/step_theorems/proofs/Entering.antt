-- No plan enters a frame once it left one.
use Prim.Native.Nat.{ℕ}
use mathlib.Core.Path.{◌≡◌, refl, sym, subst}
use mathlib.Core.List.{List}
use Rattle.instruction.specs.declared.Instruction.{Instruction}
use Rattle.manual.specs.OrTrap.{gives}
use Rattle.manual.specs.Effects.{Effect}
use Rattle.manual.specs.Seen.{Seen}
use Rattle.manual.specs.Instructions.{Running, plan_of}
use Rattle.manual.specs.Cases.{OfPlan}
use Rattle.manual.proofs.Cases.{plan-cases}
use Rattle.effects_theorems.specs.Theorems.{EntersFirst}
use Rattle.effects_theorems.proofs.Tests.{never}

pub plan-enters : (f : Running) (seen : Seen) (i : Instruction) (next : ℕ) (es : List Effect) → plan_of f seen i next ≡ gives es → EntersFirst es
plan-enters f seen i next es e =
    subst (OfPlan EntersFirst (λ class number. Unit {0})) e
    (plan-cases f seen i next EntersFirst (λ class number. Unit {0})
    (record {
      unresolved = λ a class number e. tt;
      stopped = λ class number l. tt;
      pushed = λ p r. (λ l. (refl, tt), (λ l. tt, tt));
      result = λ r m c. (λ l. (refl, tt), (λ l. tt, tt));
      origin = λ a b e c p t. (λ l. (refl, (refl, tt)), (λ l. (refl, tt), (λ l. tt, tt)));
      assigned = λ a x v e r c p. (λ l. (refl, tt), (λ l. tt, tt));
      assigned_no_result = λ a x v e r c p. (λ l. (refl, (refl, tt)), (λ l. (refl, tt), (λ l. tt, tt)));
      assigned_element = λ rank a x k e c p. (λ l. (refl, tt), (λ l. tt, tt));
      interchanged = λ e c. (λ l. (refl, tt), (λ l. tt, tt));
      gone = λ g. (λ l. tt, tt);
      dropped = λ c g. (λ l. (refl, tt), (λ l. tt, tt));
      left = λ l. (λ l. tt, tt);
      left_dropping = λ c l. (λ l. (refl, tt), (λ l. tt, tt));
      entered = λ arguments alternate number e c. (λ l. never (sym l), (λ l. tt, tt));
    }))
