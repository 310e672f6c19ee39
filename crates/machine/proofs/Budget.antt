-- What is left of a run, before and after one step or one part of it.
use Rattle.std.specs.Prelude.{Result, Ok, Err}
use Rattle.trap.specs.Trap.{trap_of}
use Rattle.trap.specs.declared.Trap.{Trap}
use Prim.Native.Nat.{ℕ, suc, ◌+◌, ◌-◌, ◌/◌, ◌%◌, ◌^◌, ◌<◌, ◌≤◌}
use native.Mathlib.Omega.{arith}
use mathlib.Core.Path.{◌≡◌, refl}
use mathlib.Core.List.{List}
use Rattle.segment.specs.State.{set_trap}
use Rattle.manual.specs.Program.{Program}
use Rattle.effects.specs.declared.Stepped.{Stepped}
use Rattle.effects.specs.declared.Stepped.TheVariants as answers
use Rattle.effects.specs.declared.Ran.{Ran}
use Rattle.effects.specs.declared.Ran.TheVariants.{Done, Trapped}
use Rattle.effects.specs.Step.{step_result, trapped, step_of}
use Rattle.effects.specs.Run.{steps_from}
use Rattle.effects.specs.Tally.{first_byte, tallied_from}
use Rattle.tally.specs.Counts.{counted}
use Rattle.machine.specs.Resuming.{Whole, ending, whole, resumed, Advanced}

-- a part of a run by what it answers
module _ (p : Program) (budget n : ℕ) (after t : List ℕ) {r : Ran} {o : Whole} where
  pub goes_on : r ≡ Done n → resumed r budget p after t ≡ o → whole (budget - n) n p after t ≡ o
  goes_on is told = rw is at told

  pub stops : r ≡ Trapped n → resumed r budget p after t ≡ o → ending (Trapped n) after t ≡ o
  stops is told = rw is at told

pub advances : (start budget n : ℕ) {r : Ran} → r ≡ Done n → Advanced start budget r → (start < n) × (n ≤ budget)
advances start budget n is told = rw is at told

-- a part after one more instruction
pub within : {n budget : ℕ} → n < budget → n + 1 ≤ budget
within more = omega arith

module _ {start n : ℕ} (from : start ≤ n) where
  pub later : start ≤ n + 1
  later = omega arith

  pub begun : {A : Type 0} → n + 1 ≡ start → A
  begun e = absurd (omega arith)

-- steps in one function that end at another function's frame have begun: the first frame is of that function
pub left-later : {start n w held function : ℕ} → start ≤ n → (n ≡ start → held / 2 ^ 16 % 2 ^ 12 ≡ function) → w ≡ held → (w / 2 ^ 16 % 2 ^ 12 ≡ function → ⊥) → start < n
left-later {start} {n} from same is differs =
    let later : (n ≡ start → ⊥) = λ e. differs (rw is (same e)) in
    omega arith

module _ (p : Program) (budget n : ℕ) (counts s : List ℕ) where
  pub run_ends : budget ≤ n → ending (Done n) counts s ≡ whole (budget - n) n p counts s
  unfolding steps_from tallied_from
  run_ends done =
      let none : budget - n ≡ 0 = omega arith in
      rw none

  -- by what the next step answers
  module _ (r : Result Stepped Trap) (t : List ℕ) (more : n < budget) (is : step_result r t ≡ step_of p s) where
    one : budget - n ≡ suc (budget - (n + 1))
    one = omega arith

    pub run-trapped : (trap : Trap) → r ≡ Err trap → ending (Trapped n) counts t ≡ whole (budget - n) n p counts s
    unfolding steps_from tallied_from
    run-trapped trap trapped = rw (one, ← is, trapped)

    -- its instruction counted
    module _ {first : ℕ} {after : List ℕ} (read : first ≡ first_byte p.regular p.alternate s) (up : after ≡ counted first counts) where
      pub run-goes : r ≡ Ok answers.Finished → whole (budget - (n + 1)) (n + 1) p after t ≡ whole (budget - n) n p counts s
      unfolding steps_from tallied_from
      run-goes done = rw (up, read, one, ← is, done)

      pub run-traced : (trap : Trap) → r ≡ Ok (answers.Traced trap) → ending (Trapped (n + 1)) after t ≡ whole (budget - n) n p counts s
      unfolding steps_from tallied_from
      run-traced trap traced = rw (up, read, one, ← is, traced)

  -- a part of a run in a function that is not there
  pub run-absent : {r : Ran} {t : List ℕ} → n < budget → trapped s 3 1 ≡ step_of p s → r ≡ Trapped n → t ≡ set_trap s 3 1 → (resumed r budget p counts t ≡ whole (budget - n) n p counts s) × Advanced n budget r
  run-absent more absent is words = rw (is, words) (run-trapped (Err (trap_of 3 1)) (set_trap s 3 1) more absent (trap_of 3 1) refl, tt)
