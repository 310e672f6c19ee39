-- What is due after a finished instruction, by computation from the definitions of runs: small segments, and what document 01 has of
-- (2,1), (2,2) and the answers ("both due: (2,2). Either goes before answer 2", "A run sets word 3 to zero first"), with decision 16 for
-- (2,3). Assumes nothing.
use Rattle.std.specs.Prelude.{ℕ, ◌+◌, ◌*◌, ◌^◌, ◌≡◌, refl, List, [], ◌∷◌, ◌++◌, replicate}
use Rattle.procedure.specs.Bytes.{word_at}
use Rattle.procedure.specs.Headers.{header_at, code_of}
use Rattle.procedure.specs.Directory.{has_function, function_of}
use Rattle.instruction.specs.Families.{family_in, family_of}
use Rattle.instruction.specs.Reading.{fetch_byte, fetch_half}
use Rattle.instruction.specs.Tables.{etc_of}
use Rattle.instruction.specs.Decoding.{call_at, etc_at, family_at, instruction_at}
use Rattle.segment.specs.State.{trap_word, set_ltop, set_lbase, set_trap}
use Rattle.segment.specs.Stack.{set_pctr}
use Rattle.manual.specs.Memory as memory
use Rattle.manual.specs.Control as control
use Rattle.manual.specs.Program.{under_manual}
use Rattle.manual.specs.Instructions.{plan_of, plan_at}
use Rattle.effects.specs.Perform.{enter, leave_without}
use Rattle.effects.specs.Seen.{seen}
use Rattle.effects.specs.declared.Ran.{Ran}
use Rattle.effects.specs.declared.Ran.TheVariants.{Done, Trapped}
use Rattle.effects.specs.Step.{current_function, current_header, step_in, step_of}
use Rattle.effects.specs.Run.{steps_from, run_of}

-- A procedure segment of two functions without variables, a word of code each, whose headers begin with these bytes. Function 1
-- is NO_OPERATION and, at 9, CALL of function 2; function 2 is RETURN.
abbrev program : ℕ → ℕ → List ℕ
program first second =
    0 ∷ 0 ∷ 0 ∷ 3 ∷ 0 ∷ 3 ∷ 0 ∷ 3 ∷ 0 ∷ 6 ∷ 0 ∷ 3
    ∷ first ∷ 0 ∷ 0 ∷ 0 ∷ 0 ∷ 0 ∷ 0 ∷ 1 ∷ 0xB2 ∷ 0xB1 ∷ 0x00 ∷ 0x02
    ∷ second ∷ 0 ∷ 0 ∷ 0 ∷ 0 ∷ 0 ∷ 0 ∷ 1 ∷ 0xB0 ∷ 0xB2 ∷ 0xB2 ∷ 0xB2 ∷ []

abbrev calltrace : ℕ
calltrace = 0x80

abbrev rtntrace : ℕ
rtntrace = 0x40

-- The flags.
abbrev fcnctrc : ℕ
fcnctrc = 2

abbrev fcnrtrc : ℕ
fcnrtrc = 4

abbrev step : ℕ
step = 8

-- A data segment of 32 words without globals, its storage the dummy, with the trap of an earlier run in word 3. The bottom frame
-- is one of that function, at that place of its code; or it is one of function 1, and function 2, called by it, is at its start.
abbrev bottom_frame : ℕ → ℕ → ℕ → List ℕ
bottom_frame flags function pctr =
    (0x000B_0001 ∷ 0x0000_0008 ∷ flags ∷ 0x0801 ∷ 8 ∷ 0 ∷ 0 ∷ 0 ∷ 0 ∷ 0x0008_0008 ∷ 0
    ∷ 0 ∷ (function * 2 ^ 16 + pctr) ∷ [])
    ++ replicate 19 0

abbrev in_first : ℕ → ℕ → List ℕ
in_first flags pctr = bottom_frame flags 1 pctr

abbrev in_second : ℕ → List ℕ
in_second flags =
    (0x000B_0003 ∷ 0x0002_0008 ∷ flags ∷ 0x0801 ∷ 8 ∷ 0 ∷ 0 ∷ 0 ∷ 0 ∷ 0x0008_0008 ∷ 0
    ∷ 0 ∷ 0x0001_000C ∷ 0 ∷ 0x0002_0008 ∷ [])
    ++ replicate 17 0

-- How a run ended: its answer, the trap word, and the function of the current frame, which is the other one after a call or a return
-- that is finished.
pub record Ended : Type 0 where
  pub answer : Ran
  pub word3 : ℕ
  pub function : ℕ

abbrev ends : Ran → ℕ → ℕ → Ended
ends answer word3 function = record { answer = answer; word3 = word3; function = function }

abbrev ran : List ℕ → List ℕ → ℕ → Ended
ran p s budget = let o = run_of (under_manual p p) s budget in ends o.answer (trap_word o.words) (current_function o.words)

pub record Due : Type 0 where
  -- STEP alone: (2,1) after NO_OPERATION, after the call and after the return, each counted
  pub stepped : ran (program 0 0) (in_first step 8) 5 ≡ ends (Trapped 1) 0x0201 1
  pub stepped_call : ran (program 0 0) (in_first step 9) 5 ≡ ends (Trapped 1) 0x0201 2
  pub stepped_return : ran (program 0 0) (in_second step) 5 ≡ ends (Trapped 1) 0x0201 1
  -- the call trace, alone and over (2,1); not where the called header's bit or the flag is clear, whatever the caller's header and the
  -- other flag
  pub called : ran (program 0 calltrace) (in_first fcnctrc 9) 5 ≡ ends (Trapped 1) 0x0202 2
  pub called_step : ran (program 0 calltrace) (in_first (fcnctrc + step) 9) 5 ≡ ends (Trapped 1) 0x0202 2
  pub called_header : ran (program calltrace rtntrace) (in_first (fcnctrc + step) 9) 5 ≡ ends (Trapped 1) 0x0201 2
  pub called_flag : ran (program calltrace calltrace) (in_first (fcnrtrc + step) 9) 5 ≡ ends (Trapped 1) 0x0201 2
  pub called_quiet : ran (program calltrace rtntrace) (in_first fcnctrc 9) 1 ≡ ends (Done 1) 0 2
  -- the return trace by the header of the function that was left
  pub left : ran (program 0 rtntrace) (in_second fcnrtrc) 5 ≡ ends (Trapped 1) 0x0203 1
  pub left_step : ran (program 0 rtntrace) (in_second (fcnrtrc + step)) 5 ≡ ends (Trapped 1) 0x0203 1
  pub left_header : ran (program rtntrace calltrace) (in_second (fcnrtrc + step)) 5 ≡ ends (Trapped 1) 0x0201 1
  pub left_flag : ran (program rtntrace rtntrace) (in_second (fcnctrc + step)) 5 ≡ ends (Trapped 1) 0x0201 1
  pub left_quiet : ran (program rtntrace calltrace) (in_second fcnrtrc) 1 ≡ ends (Done 1) 0 1
  -- from the start: the first instructions are counted too
  pub called_after : ran (program 0 calltrace) (in_first fcnctrc 8) 5 ≡ ends (Trapped 2) 0x0202 2
  pub left_after : ran (program 0 rtntrace) (in_first fcnrtrc 8) 5 ≡ ends (Trapped 3) 0x0203 1
  -- a trace goes before answer 2: the budget is used up by the instruction that is traced
  pub stepped_last : ran (program 0 0) (in_first step 8) 1 ≡ ends (Trapped 1) 0x0201 1
  pub called_last : ran (program 0 calltrace) (in_first fcnctrc 9) 1 ≡ ends (Trapped 1) 0x0202 2
  pub left_last : ran (program 0 rtntrace) (in_second fcnrtrc) 1 ≡ ends (Trapped 1) 0x0203 1
  -- word 3 is zero after a run that is done, a budget of 0 too; a RETURN that traps, here of the bottom frame, is neither counted nor
  -- traced nor stepped
  pub done : ran (program 0 0) (in_first 0 8) 3 ≡ ends (Done 3) 0 1
  pub nothing : ran (program 0 0) (in_first step 8) 0 ≡ ends (Done 0) 0 1
  pub trapped : ran (program 0 rtntrace) (bottom_frame (fcnrtrc + step) 2 8) 5 ≡ ends (Trapped 0) 0x030D 2

pub due : Due
unfolding run_of steps_from step_of step_in current_header function_of has_function header_at word_at code_of plan_at plan_of family_in family_of
    fetch_byte fetch_half etc_of call_at etc_at family_at instruction_at memory.no_operation control.call control.return seen
    enter leave_without set_ltop set_lbase set_trap set_pctr
due = record {
  stepped = refl;
  stepped_call = refl;
  stepped_return = refl;
  called = refl;
  called_step = refl;
  called_header = refl;
  called_flag = refl;
  called_quiet = refl;
  left = refl;
  left_step = refl;
  left_header = refl;
  left_flag = refl;
  left_quiet = refl;
  called_after = refl;
  left_after = refl;
  stepped_last = refl;
  called_last = refl;
  left_last = refl;
  done = refl;
  nothing = refl;
  trapped = refl;
}
