-- What a run comes to: the chain of its steps. Document 01's table, 2 and 3: "the number asked was done", "a trap"; "each counts
-- one finished instruction"; "Either goes before answer 2". Assumes nothing.
use Rattle.std.specs.Prelude.{ℕ, zero, suc, ◌+◌, ◌≡◌, true, ◌≢◌, ◌⊎◌, List}
use Rattle.segment.specs.State as state
use Rattle.manual.specs.OrTrap.{gives}
use Rattle.manual.specs.Effects.{Effect}
use Rattle.manual.specs.Program.{Program}
use Rattle.step_theorems.specs.Planned.{planned}
use Rattle.audit.specs.Calls.{procedures_of, Answer, ran, trapped, Passes}
use Rattle.audit.specs.Steps.{traps_by, finishes, Step, in_vain}

-- From `s`, with so many instructions left to do and so many finished, to an answer and the words after it.
pub data Runs (p : Program) : ℕ → ℕ → List ℕ → Answer → List ℕ → Type 0 where
  -- the number asked was done
  over : {steps : ℕ} {s : List ℕ} → Runs p zero steps s (ran steps) s
  -- an instruction finished, nothing is due, and the run goes on from the words that it left
  goes_on : {budget steps : ℕ} {s t u : List ℕ} {answer : Answer} → Passes s (procedures_of p) → Step p s (finishes 0) t
      → Runs p budget (steps + 1) t answer u → Runs p (suc budget) steps s answer u
  -- an instruction finished, and what is due comes before answer 2
  traced : {budget steps d : ℕ} {s t : List ℕ} → Passes s (procedures_of p) → d ≢ 0 → Step p s (finishes d) t
      → Runs p (suc budget) steps s (trapped (steps + 1)) t
  -- an instruction trapped: it is not counted
  stops : {budget steps class number : ℕ} {s t : List ℕ} → Passes s (procedures_of p) → Step p s (traps_by class number) t
      → Runs p (suc budget) steps s (trapped steps) t

-- ---- storage full

-- The next instruction comes to a request for which no free block is long enough.
abbrev pub RequestInVain : Program → List ℕ → Type 0
RequestInVain p s = (es : List Effect) × (planned s p ≡ gives es) × (in_vain s es ≡ true)

-- An instruction of the run does.
abbrev pub SomeRequestInVain : {p : Program} {budget steps : ℕ} {s t : List ℕ} {answer : Answer} → Runs p budget steps s answer t → Type 0
SomeRequestInVain over = ⊥
SomeRequestInVain {p = p} (goes_on {s = s} accepted step rest) = RequestInVain p s ⊎ SomeRequestInVain rest
SomeRequestInVain {p = p} (traced {s = s} accepted some step) = RequestInVain p s
SomeRequestInVain {p = p} (stops {s = s} accepted step) = RequestInVain p s

-- A run reports full: answer 3 with (1,2) in word 3.
pub record ReportsFull (answer : Answer) (t : List ℕ) : Type 0 where
  pub steps : ℕ
  pub answered : answer ≡ trapped steps
  pub trap : state.trap_word t ≡ state.trap_of 1 2
