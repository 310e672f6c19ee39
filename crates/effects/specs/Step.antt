-- A step on words: fetch, plan, do, and then the step and trace traps. Document 01, "Meanings fixed here": fetch traps first;
-- (1,2) last; "(2,1) and (2,2) come after a finished, counted instruction; both due: (2,2). Call trace goes by FCNCTRC and the
-- called header, return trace by FCNRTRC"; decision 16 for (2,3). Assumes nothing.
use Rattle.std.specs.Prelude.{ℕ, ◌%◌, ◌^◌, Bool, cond, ◌&&◌, List, eqb, Option, Some, None, Result, Ok, Err}
use Rattle.trap.specs.Trap.{trap_of}
use Rattle.trap.specs.declared.Trap.{Trap}
use Rattle.procedure.specs.declared.header.Header.{Header}
use Rattle.procedure.specs.declared.header.Block.{Block}
use Rattle.procedure.specs.Directory.{selected, function_of, header_of_function}
use Rattle.segment.specs.State.{lbase, flags, fcnctrc, fcnrtrc, step_flag, set_trap}
use Rattle.segment.specs.Stack as stack
use Rattle.segment.specs.Stack.{code_word_at, function_number, pctr}
use Rattle.manual.specs.Program.{Program}
use Rattle.manual.specs.Instructions.{Running, running, header_of, plan_at}
use Rattle.effects.specs.Seen.{seen}
use Rattle.effects.specs.declared.Outcome.{Outcome}
use Rattle.effects.specs.declared.Outcome.TheVariants as O
use Rattle.effects.specs.Carried.{Carried, carry}
use Rattle.effects.specs.declared.Stepped.{Stepped}
use Rattle.effects.specs.declared.Stepped.TheVariants.{Finished, Traced}

-- What a step answers, and the segment after it.
pub record StepResult : Type 0 where
  pub answer : Result Stepped Trap
  pub words : List ℕ

abbrev pub step_result : Result Stepped Trap → List ℕ → StepResult
step_result answer s = record { answer = answer; words = s }

-- ---- the current frame

abbrev pub selector_of : List ℕ → Bool
selector_of s = eqb (stack.alternate_bit (code_word_at s (lbase s))) 1

abbrev pub current_function : List ℕ → ℕ
current_function s = function_number (code_word_at s (lbase s))

-- The header of its function.
unfoldable pub current_header : List ℕ → List ℕ → List ℕ → Header
current_header regular alternate s = header_of_function (selected (selector_of s) regular alternate) (current_function s)

-- ---- what is due after a finished instruction

-- The number of the class 2 trap, 0 for none: a trace, where its flag and the header's bit are set, or else the step trap.
abbrev pub due_if : Bool → ℕ → List ℕ → ℕ
due_if traced trace s = cond traced trace (step_flag (flags s))

-- In `s` the instruction is done: of a call the current frame is the called one. `rtntrace` is the left function's.
abbrev pub due : List ℕ → List ℕ → Bool → Outcome → List ℕ → ℕ
due regular alternate rtntrace O.Finished s = step_flag (flags s)
due regular alternate rtntrace O.Entered s = due_if (eqb (fcnctrc (flags s)) 1 && (current_header regular alternate s).calltrace) 2 s
due regular alternate rtntrace O.Left s = due_if (eqb (fcnrtrc (flags s)) 1 && rtntrace) 3 s

-- ---- the step

-- The instruction traps: everything but the trap word is unchanged. Class and number have eight bits each.
abbrev pub trapped : List ℕ → ℕ → ℕ → StepResult
trapped s class number = step_result (Err (trap_of class number)) (set_trap s (class % 2 ^ 8) (number % 2 ^ 8))

-- It is done and counted; what is due comes after.
abbrev pub finished : ℕ → List ℕ → StepResult
finished due s = cond (eqb due 0) (step_result (Ok Finished) s) (step_result (Ok (Traced (trap_of 2 due))) (set_trap s 2 due))

abbrev pub settled : List ℕ → List ℕ → Bool → Result Outcome Trap → List ℕ → StepResult
settled regular alternate rtntrace (Err trap) s = trapped s trap.class trap.number
settled regular alternate rtntrace (Ok outcome) s = finished (due regular alternate rtntrace outcome s) s

abbrev pub settle : List ℕ → List ℕ → Bool → Carried → StepResult
settle regular alternate rtntrace c = settled regular alternate rtntrace c.outcome c.words

unfoldable pub step_in : Running → List ℕ → StepResult
step_in f s =
    settle f.program.regular f.program.alternate (header_of f).rtntrace
    (carry s (plan_at f (seen s) (pctr (code_word_at s (lbase s)))))

-- The function of the current frame; one outside its bounds is (3,1).
abbrev pub step_found : Program → List ℕ → Bool → Option Block → StepResult
step_found p s selector (Some block) = step_in (running p selector block) s
step_found p s selector None = trapped s 3 1

unfoldable pub step_of : Program → List ℕ → StepResult
step_of p s = step_found p s (selector_of s) (function_of (selected (selector_of s) p.regular p.alternate) (current_function s))
