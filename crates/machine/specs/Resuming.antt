-- A run that is under way: some instructions have finished, and it goes on or has trapped. Contracts inside the crate cite it and
-- that of `run` does not, so a reader need not believe it. Assumes nothing.
use Rattle.std.specs.Prelude.{ℕ, ◌-◌, ◌<◌, ◌≤◌, ◌≡◌, List, Some}
use Rattle.procedure.specs.Directory.{function_of}
use Rattle.manual.specs.Program.{Program}
use Rattle.manual.specs.Instructions.{Running, segment_of, header_of, plan_at}
use Rattle.effects.specs.declared.Ran.{Ran}
use Rattle.effects.specs.declared.Ran.TheVariants.{Done, Trapped}
use Rattle.effects.specs.Seen.{seen}
use Rattle.effects.specs.Carried.{carry}
use Rattle.effects.specs.Step.{StepResult, selector_of, current_function, settle}
use Rattle.effects.specs.Run.{RunResult, run_result, steps_from}
use Rattle.effects.specs.Tally.{tallied_from}

-- A step of the instruction at that place of the function `f`, wherever PCTR is.
abbrev pub step_at : Running → ℕ → List ℕ → StepResult
step_at f place s = settle f.program.regular f.program.alternate (header_of f).rtntrace (carry s (plan_at f (seen s) place))

-- The current frame is of the function `f`, which has that number in its directory.
pub record Current (f : Running) (number : ℕ) (s : List ℕ) : Type 0 where
  pub found : function_of (segment_of f) number ≡ Some f.block
  pub selects : selector_of s ≡ f.selector
  pub numbers : current_function s ≡ number

-- A run with its counts: what it answers, the words and the counts after it.
pub record Whole : Type 0 where
  pub result : RunResult
  pub counts : List ℕ

-- A run that has ended.
abbrev pub ending : Ran → List ℕ → List ℕ → Whole
ending r counts s = record { result = run_result r s; counts = counts }

-- A run of at most `budget` more instructions, so many having finished before it.
abbrev pub whole : ℕ → ℕ → Program → List ℕ → List ℕ → Whole
whole budget steps p counts s = record {
  result = steps_from budget steps p s;
  counts = tallied_from budget counts p s;
}

-- What the whole run comes to, of `budget` instructions, when a part of it has answered so.
abbrev pub resumed : Ran → ℕ → Program → List ℕ → List ℕ → Whole
resumed (Done n) budget p counts s = whole (budget - n) n p counts s
resumed (Trapped n) budget p counts s = ending (Trapped n) counts s

-- A part that begins after `start` instructions and has not trapped has done at least one more.
abbrev pub Advanced : ℕ → ℕ → Ran → Type 0
Advanced start budget (Done n) = (start < n) × (n ≤ budget)
Advanced start budget (Trapped n) = Unit {0}

-- A part's contract: begun after `start` instructions with the counts `before` and the words `s`, it answers `r` and leaves the
-- counts `after` and the words `t`.
abbrev pub Resumes : Program → ℕ → ℕ → List ℕ → List ℕ → Ran → List ℕ → List ℕ → Type 0
Resumes p start budget before s r after t =
    (resumed r budget p after t ≡ whole (budget - start) start p before s) × Advanced start budget r
