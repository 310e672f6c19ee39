-- Steps under a table of operators that is lent. Document 02, paper 5: "Each step does what the manual's table does for the operator that
-- the lent table names, shown over all tables." What stands at PCTR is told by decoding, which knows no table. Assumes nothing.
use Rattle.std.specs.Prelude.{ℕ, ◌-◌, ◌≡◌, List, [], ◌∷◌, length, Option, Some, None, Result, Err}
use Rattle.trap.specs.declared.Trap.{Trap}
use Rattle.trap.specs.Trap.{trap_of}
use Rattle.descriptor.specs.declared.address.CodeAddress.{CodeAddress}
use Rattle.operator.specs.declared.Operator.{Operator}
use Rattle.operator.specs.Lent.{manual_table, named}
use Rattle.procedure.specs.declared.header.Block.{Block}
use Rattle.procedure.specs.Directory.{function_of}
use Rattle.instruction.specs.declared.Instruction.{Instruction}
use Rattle.instruction.specs.declared.Instruction.TheVariants as I
use Rattle.instruction.specs.declared.Decoded.{Decoded}
use Rattle.instruction.specs.Decoding.{done, instruction_at}
use Rattle.segment.specs.State.{sbase}
use Rattle.segment.specs.Stack.{function_number}
use Rattle.segment.specs.Cells.{Cell}
use Rattle.segment.specs.Machine.{Frame}
use Rattle.segment.specs.View.{view}
use Rattle.acceptance.specs.Frames.{frame_segment}
use Rattle.manual.specs.Seen.{Seen, seen_of}
use Rattle.manual.specs.Program.{Program, program, under_manual}
use Rattle.manual.specs.Instructions.{Running, running, code_in, scalar_plan, plan_of, plan_decoded}
use Rattle.legality.specs.Legal.{function_word}
use Rattle.step_theorems.specs.Planned.{frame_selector, planned}
use Rattle.audit.specs.Calls.{Procedures, run, first_failed, segment_tests, tests}
use Rattle.audit.specs.Steps.{StepOutcome, Step}

-- What is decoded at PCTR, in the function of the current frame.
abbrev pub decoded_in : Program → Frame Cell → Option Block → Result Decoded Trap
decoded_in p r (Some block) = instruction_at (code_in (running p (frame_selector r) block)) r.pctr
decoded_in p r None = Err (trap_of 3 1)

abbrev pub decoded_from : Program → List (Frame Cell) → Result Decoded Trap
decoded_from p [] = Err (trap_of 3 1)
decoded_from p (r ∷ older) = decoded_in p r (function_of (frame_segment p.regular p.alternate (function_word r)) (function_number (function_word r)))

abbrev pub next_decoded : Program → List ℕ → Result Decoded Trap
next_decoded p s = decoded_from p (view s).frames

-- It is that GENSCALAR instruction, by the manual's name of its suboperation.
abbrev pub NextScalar : Program → List ℕ → Operator → CodeAddress → Type 0
NextScalar p s op next = next_decoded p s ≡ done (I.Scalar op) next

-- The same procedure segments with another table.
abbrev pub lending : List ℕ → Program → Program
lending table p = program p.regular p.alternate table

pub record TableTheorems : Type 0 where
  -- a GENSCALAR instruction is planned as the manual plans the operator that the table names for its suboperation,
  pub scalar : (p : Program) (s : List ℕ) (op : Operator) (next : CodeAddress) → NextScalar p s op next
      → planned s p ≡ scalar_plan (seen_of (length s - sbase s) (view s)) next.0 (named p.table op)
  -- so two programs, each with its own numbering, do the same step where their tables name the same operator;
  pub scalar_step : {p q : Program} {s t : List ℕ} {o : StepOutcome} {a b : Operator} {next : CodeAddress} → NextScalar p s a next → NextScalar q s b next
      → named p.table a ≡ named q.table b → Step p s o t → Step q s o t
  -- in any other instruction, and where nothing is decoded, no table has a part
  pub others : (p : Program) (s : List ℕ) → ((op : Operator) (next : CodeAddress) → NextScalar p s op next → ⊥) → (table : List ℕ)
      → planned s p ≡ planned s (lending table p)
  pub others_step : {p : Program} {s t : List ℕ} {o : StepOutcome} → ((op : Operator) (next : CodeAddress) → NextScalar p s op next → ⊥) → (table : List ℕ)
      → Step p s o t → Step (lending table p) s o t
  -- under 0, 1, .., 15 every instruction is planned as what it is, and the tests are 10–18
  pub manual : (f : Running) → f.program.table ≡ manual_table → (seen : Seen) (i : Instruction) (next : CodeAddress)
      → plan_decoded f seen (done i next) ≡ plan_of f seen i next.0
  pub manual_tests : (s : List ℕ) (p : Procedures) (budget : ℕ)
      → first_failed (tests s (run (under_manual p.regular p.alternate) budget)) ≡ first_failed (segment_tests s p)
