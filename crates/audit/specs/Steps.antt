-- What one instruction of an accepted segment comes to, told by the words before it, its outcome and the words after it, and by
-- nothing of how an engine does it. Document 01: "Meanings fixed here" and the manual, by way of the plan of the instruction at
-- PCTR. A reader must believe: `planned` is the manual's plan, `perform_all` its effects on values. Assumes nothing.
use Rattle.std.specs.Prelude.{ℕ, ◌/◌, ◌≡◌, Bool, true, false, cond, not, ◌&&◌, List, [], ◌∷◌, ltb, eqb, length, set}
use Rattle.descriptor.specs.declared.Target.{Target}
use Rattle.procedure.specs.declared.header.Header.{Header}
use Rattle.segment.specs.State.{sbase, flags, fcnctrc, fcnrtrc, step_flag, trap_word, trap_of, blockptr}
use Rattle.segment.specs.Cells.{undefined}
use Rattle.segment.specs.View.{view}
use Rattle.acceptance_storage.specs.Room.{long_enough}
use Rattle.manual.specs.OrTrap.{gives, trap}
use Rattle.manual.specs.Effects.{Effect, NoneStoresTo, look, AddressableIn, perform_all}
use Rattle.manual.specs.Program.{Program}
use Rattle.effects.specs.Perform.{wanted}
use Rattle.effects.specs.declared.Outcome.{Outcome as Turn}
use Rattle.effects.specs.declared.Outcome.TheVariants as T
use Rattle.effects.specs.Carried.{outcome_of}
use Rattle.step_theorems.specs.Planned.{planned, header_in}

-- It traps by class and number; or it finishes, with the number of the class 2 trap that is due after it, 0 for none.
pub data StepOutcome : Type 0 where
  traps_by : ℕ → ℕ → StepOutcome
  finishes : ℕ → StepOutcome

-- ---- storage full

-- The SIZE of the block that effects ask for, 0 where they ask for none: of a plan only the first may ask.
abbrev pub asked : List ℕ → List Effect → ℕ
asked s [] = 0
asked s (e ∷ es) = wanted s e

-- A block is asked for, and no free block that stands in `s` is long enough.
abbrev pub in_vain : List ℕ → List Effect → Bool
in_vain s es = ltb 0 (asked s es) && not (long_enough s (asked s es))

-- ---- what is due after a finished instruction

-- "both due: (2,2)"; "Call trace goes by FCNCTRC and the called header, return trace by FCNRTRC", with RTNTRACE of the function
-- that was left (decision 16); else (2,1) where STEP is set.
abbrev pub due_after : Turn → ℕ → Header → Header → ℕ
due_after T.Finished f called left = step_flag f
due_after T.Entered f called left = cond (eqb (fcnctrc f) 1 && called.calltrace) 2 (step_flag f)
due_after T.Left f called left = cond (eqb (fcnrtrc f) 1 && left.rtntrace) 3 (step_flag f)

-- ---- the step

-- The effects are done, and `d` is due.
pub record EffectsDone (p : Program) (s : List ℕ) (es : List Effect) (d : ℕ) (t : List ℕ) : Type 0 where
  -- values, frames and the next PCTR
  pub seen : view t ≡ perform_all es (view s)
  -- a variable that no effect stores to is seen as before, though it shares storage
  pub others : (u : Target) → AddressableIn u (view s) → AddressableIn u (view t) → NoneStoresTo es u → look undefined u (view t) ≡ look undefined u (view s)
  -- by whether a function was entered or left, and by its header
  pub due : d ≡ due_after (outcome_of es) (flags s) (header_in p.regular p.alternate (view t)) (header_in p.regular p.alternate (view s))
  pub trap_word : trap_word t ≡ cond (eqb d 0) (trap_word s) (trap_of 2 d)
  pub length : length t ≡ length s
  pub sbase : sbase t ≡ sbase s
  pub blockptr : blockptr t ≡ blockptr s
  -- flags but IORG
  pub flags : flags t / 2 ≡ flags s / 2

pub data Step (p : Program) (s : List ℕ) : StepOutcome → List ℕ → Type 0 where
  -- a trap of the manual's lists: word 3 is the trap, and nothing else changes
  traps : {class number : ℕ} → planned s p ≡ trap class number
      → Step p s (traps_by class number) (set s 3 (trap_of class number))
  -- (1,2): every other trap has passed, and a block is asked for in vain
  full : {es : List Effect} → planned s p ≡ gives es → in_vain s es ≡ true → Step p s (traps_by 1 2) (set s 3 (trap_of 1 2))
  does : {es : List Effect} {d : ℕ} {t : List ℕ} → planned s p ≡ gives es → in_vain s es ≡ false → EffectsDone p s es d t
      → Step p s (finishes d) t
