-- What comes after an instruction that is done: a step or trace trap, or none.
use Prim.Native.Nat.{ℕ, ◌^◌, ◌<◌, ◌≤◌}
use mathlib.Core.Path.{◌≡◌, refl}
use mathlib.Core.Bool.{Bool, true, false}
use mathlib.Core.List.{List}
use mathlib.Core.Logic.{◌≢◌}
use native.Mathlib.Omega.{arith}
use lib.Dec.{eqb}
use lib.ListN.{set}
use borrow.Author.Tests.{eqb-true, eqb-false}
use Rattle.segment.specs.State.{set_trap}
use Rattle.std.specs.Prelude.{Ok}
use Rattle.trap.specs.Trap.{trap_of}
use Rattle.effects.specs.declared.Outcome.{Outcome}
use Rattle.effects.specs.declared.Outcome.TheVariants as O
use Rattle.effects.specs.declared.Stepped.TheVariants.{Finished, Traced}
use Rattle.effects.specs.Step.{StepResult, step_result, finished}

pub outcome-by : (P : Outcome → Type 0) → P O.Finished → P O.Entered → P O.Left → (o : Outcome) → P o
outcome-by P f e l O.Finished = f
outcome-by P f e l O.Entered = e
outcome-by P f e l O.Left = l

module _ (d : ℕ) (t : List ℕ) where
  pub finished-by : (P : StepResult → Type 0) → (d ≡ 0 → P (step_result (Ok Finished) t)) → (d ≢ 0 → P (step_result (Ok (Traced (trap_of 2 d))) (set_trap t 2 d))) → P (finished d t)
  finished-by P f g = go (eqb d 0) refl
    where
      go : (b : Bool) → eqb d 0 ≡ b → P (finished d t)
      go true e = rw e (f (eqb-true d 0 e))
      go false e = rw e (g (eqb-false d 0 e))

  -- what holds of the words, and goes by no trap, holds of the words that are left
  pub finished-keeps : d ≤ 3 → (P : List ℕ → Type 0) → ((v : ℕ) → v < 2 ^ 16 → P (set t 3 v)) → P t → P (finished d t).words
  unfolding set_trap
  finished-keeps small P h k = finished-by (λ r. P r.words) (λ z. k) (λ n. h _ (omega arith))
