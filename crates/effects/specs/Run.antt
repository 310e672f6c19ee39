-- At most a given number of instructions. Document 01's table: 2 and the steps where the number asked was done, 3 and the steps
-- at a trap. Steps count finished instructions, the one before a step or trace trap among them. Assumes nothing.
use Rattle.std.specs.Prelude.{ℕ, zero, suc, ◌+◌, List, set, Result, Ok, Err}
use Rattle.trap.specs.declared.Trap.{Trap}
use Rattle.manual.specs.Program.{Program}
use Rattle.effects.specs.declared.Stepped.{Stepped}
use Rattle.effects.specs.declared.Stepped.TheVariants.{Finished, Traced}
use Rattle.effects.specs.declared.Ran.{Ran}
use Rattle.effects.specs.declared.Ran.TheVariants as R
use Rattle.effects.specs.Step.{step_of}

pub record RunResult : Type 0 where
  pub answer : Ran
  pub words : List ℕ

abbrev pub run_result : Ran → List ℕ → RunResult
run_result answer s = record { answer = answer; words = s }

-- What follows a step that answered so, `steps` instructions having finished before it.
abbrev pub following : ℕ → Result Stepped Trap → List ℕ → (List ℕ → RunResult) → RunResult
following steps (Ok Finished) s more = more s
following steps (Ok (Traced trap)) s more = run_result (R.Trapped (steps + 1)) s
following steps (Err trap) s more = run_result (R.Trapped steps) s

unfoldable pub steps_from : ℕ → ℕ → Program → List ℕ → RunResult
steps_from zero steps p s = run_result (R.Done steps) s
steps_from (suc budget) steps p s =
    let r = step_of p s in
    following steps r.answer r.words (λ t. steps_from budget (steps + 1) p t)

-- "A run sets word 3 to zero first."
unfoldable pub run_of : Program → List ℕ → ℕ → RunResult
run_of p s budget = steps_from budget 0 p (set s 3 0)
