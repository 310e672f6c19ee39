-- Steps under a table of operators that is lent.
use Rattle.std.proofs.Common.{Option, Some, None, Result, Ok, Err}
use Prim.Native.Nat.{ℕ, ◌-◌}
use mathlib.Core.Path.{◌≡◌, refl, sym, ◌∙◌, ap, subst}
use mathlib.Core.List.{List, [], ◌∷◌}
use native.Mathlib.Omega.{arith}
use lib.Dec.{ltb}
use lib.ListN.{length}
use Rattle.descriptor.specs.declared.address.CodeAddress.{CodeAddress}
use Rattle.operator.specs.declared.Operator.{Operator}
use Rattle.operator.specs.declared.Operator.TheVariants as O
use Rattle.operator.specs.Lent.{manual_table, named}
use Rattle.operator_theorems.proofs.Theorem.{lent-tables}
use Rattle.procedure.specs.declared.header.Block.{Block}
use Rattle.procedure.specs.Directory.{function_of}
use Rattle.instruction.specs.declared.ControlOperation.TheVariants as C
use Rattle.instruction.specs.declared.Jump.TheVariants as J
use Rattle.instruction.specs.declared.Instruction.{Instruction}
use Rattle.instruction.specs.declared.Instruction.TheVariants as I
use Rattle.trap.specs.declared.Trap.{Trap}
use Rattle.instruction.specs.declared.Decoded.{Decoded}
use Rattle.instruction.specs.Decoding.{done, instruction_at}
use Rattle.segment.specs.State.{sbase, flags}
use Rattle.segment.specs.Stack.{function_number}
use Rattle.segment.specs.Cells.{Cell}
use Rattle.segment.specs.Machine.{Frame, Machine}
use Rattle.segment.specs.View.{view}
use Rattle.acceptance.specs.Frames.{frame_segment}
use Rattle.manual.specs.OrTrap.{gives}
use Rattle.manual.specs.Effects.{Effect, Plan}
use Rattle.manual.specs.Seen.{Seen, seen_of}
use Rattle.manual.specs.Scalars as scalars
use Rattle.manual.specs.Scalars.{value_of}
use Rattle.manual.specs.Values as values
use Rattle.manual.specs.Program.{Program, under_table}
use Rattle.manual.specs.Instructions.{running, code_in, scalar_plan, plan_of, plan_decoded, plan_at}
use Rattle.manual.specs.Cases.{OfPlan}
use Rattle.manual.proofs.Lists.{stops, goes}
use Rattle.effects.specs.declared.Outcome.TheVariants.{Finished}
use Rattle.effects.specs.Carried.{outcome_of}
use Rattle.legality.specs.Legal.{function_word}
use Rattle.step_theorems.specs.Planned.{frame_selector, plan_in, plan_from, next_plan, planned, header_in}
use Rattle.operations.proofs.Tests.{run-manual}
use Rattle.audit.specs.Steps.{StepOutcome, due_after, EffectsDone, Step, traps, full, does}
use Rattle.audit.specs.Tables.{decoded_in, decoded_from, NextScalar, lending, TableTheorems}
use Rattle.audit.proofs.Tests.{segment-told, run-told}

-- ---- the plan

module _ (p : Program) (words : ℕ) (m : Machine Cell) where
  module _ (op : Operator) (next : CodeAddress) where
    abbrev Is : Result Decoded Trap → Type 0
    Is d = d ≡ done (I.Scalar op) next

    scalar-in : (r : Frame Cell) (f : Option Block) → Is (decoded_in p r f) → plan_in p words m r f ≡ scalar_plan (seen_of words m) next.0 (named p.table op)
    unfolding plan_at plan_of
    scalar-in r (Some block) e = ap (plan_decoded (running p (frame_selector r) block) (seen_of words m)) e
    scalar-in r None e = let z : ◌≡◌ {A = ℕ} 0 1 = cc in absurd (omega arith)

    scalar-from : (l : List (Frame Cell)) → Is (decoded_from p l) → plan_from p words m l ≡ scalar_plan (seen_of words m) next.0 (named p.table op)
    scalar-from [] e = let z : ◌≡◌ {A = ℕ} 0 1 = cc in absurd (omega arith)
    scalar-from (r ∷ older) e = scalar-in r (function_of (frame_segment p.regular p.alternate (function_word r)) (function_number (function_word r))) e

  module _ (table : List ℕ) where
    abbrev Other : Result Decoded Trap → Type 0
    Other d = (op : Operator) (next : CodeAddress) → d ≡ done (I.Scalar op) next → ⊥

    module _ (r : Frame Cell) (block : Block) where
      abbrev Same : Result Decoded Trap → Type 0
      Same d = plan_decoded (running p (frame_selector r) block) (seen_of words m) d ≡ plan_decoded (running (lending table p) (frame_selector r) block) (seen_of words m) d

      same-instruction : (i : Instruction) (next : CodeAddress) → Other (done i next) → Same (done i next)
      unfolding plan_of
      same-instruction (I.Scalar op) next h = absurd (h op next refl)
      same-instruction (I.Load a) next h = refl
      same-instruction (I.ShortConstant negative magnitude) next h = refl
      same-instruction (I.Memory op a) next h = refl
      same-instruction (I.Stack op) next h = refl
      same-instruction (I.Array op) next h = refl
      same-instruction (I.Control C.Branch) next h = refl
      same-instruction (I.Control C.Return) next h = refl
      same-instruction (I.Control C.NoOperation) next h = refl
      same-instruction (I.Control C.Breakpoint) next h = refl
      same-instruction (I.Control C.Attention) next h = refl
      same-instruction (I.Jump J.Go place) next h = refl
      same-instruction (I.Jump J.GoTrue place) next h = refl
      same-instruction (I.Jump J.GoFalse place) next h = refl
      same-instruction (I.ConstantScalar w) next h = refl
      same-instruction (I.ConstantVector count first) next h = refl
      same-instruction (I.Call arguments alternate number) next h = refl
      same-instruction (I.Index rank) next h = refl

      same-plan : (d : Result Decoded Trap) → Other d → Same d
      same-plan (Ok d) h = same-instruction d.instruction d.next h
      same-plan (Err t) h = refl

    other-in : (r : Frame Cell) (f : Option Block) → Other (decoded_in p r f) → plan_in p words m r f ≡ plan_in (lending table p) words m r f
    unfolding plan_at
    other-in r (Some block) h = same-plan r block (instruction_at (code_in (running p (frame_selector r) block)) r.pctr) h
    other-in r None h = refl

    other_from : (l : List (Frame Cell)) → Other (decoded_from p l) → plan_from p words m l ≡ plan_from (lending table p) words m l
    other_from [] h = refl
    other_from (r ∷ older) h = other-in r (function_of (frame_segment p.regular p.alternate (function_word r)) (function_number (function_word r))) h

scalar : (p : Program) (s : List ℕ) (op : Operator) (next : CodeAddress) → NextScalar p s op next
    → planned s p ≡ scalar_plan (seen_of (length s - sbase s) (view s)) next.0 (named p.table op)
unfolding next_plan
scalar p s op next e = scalar-from p (length s - sbase s) (view s) op next (view s).frames e

others : (p : Program) (s : List ℕ) → ((op : Operator) (next : CodeAddress) → NextScalar p s op next → ⊥) → (table : List ℕ) → planned s p ≡ planned s (lending table p)
unfolding next_plan
others p s h table = other_from p (length s - sbase s) (view s) table (view s).frames h

-- ---- a GENSCALAR instruction enters and leaves no function

abbrev Finishes : Plan → Type 0
Finishes plan = OfPlan (λ es. outcome_of es ≡ Finished) (λ class number. Unit {0}) plan

module _ (seen : Seen) (next : ℕ) where
  replaced : (n : ℕ) (x : _) → Finishes (scalars.replace_by next n x)
  replaced n x = goes _ _ x _ (λ class number e. tt) (λ v e. refl)

  scalar-finishes : (op : Operator) → Finishes (scalar_plan seen next op)
  unfolding scalars.monadic scalars.dyadic
  scalar-finishes (O.Monadic op) =
      stops _ _ (ltb seen.count 1) 3 4 _ tt (λ c. goes _ _ (value_of (seen.operand 0)) _ (λ class number e. tt) (λ a e. replaced 1 (values.monadic op a)))
  scalar-finishes (O.Dyadic op) =
      stops _ _ (ltb seen.count 2) 3 4 _ tt (λ c.
      goes _ _ (value_of (seen.operand 0)) _ (λ class number e. tt) (λ a e.
      goes _ _ (value_of (seen.operand 1)) _ (λ class number e. tt) (λ b e. replaced 2 (values.dyadic op a b))))

-- ---- the step

module _ {p q : Program} {s : List ℕ} (same : planned s p ≡ planned s q)
    (due : (es : List Effect) (t : List ℕ) → planned s p ≡ gives es
    → due_after (outcome_of es) (flags s) (header_in p.regular p.alternate (view t)) (header_in p.regular p.alternate (view s))
    ≡ due_after (outcome_of es) (flags s) (header_in q.regular q.alternate (view t)) (header_in q.regular q.alternate (view s))) where
  done-alike : {es : List Effect} {d : ℕ} {t : List ℕ} → planned s p ≡ gives es → EffectsDone p s es d t → EffectsDone q s es d t
  done-alike {es = es} {t = t} e k = record {
    seen = k.seen;
    others = k.others;
    due = k.due ∙ due es t e;
    trap_word = k.trap_word;
    length = k.length;
    sbase = k.sbase;
    blockptr = k.blockptr;
    flags = k.flags;
  }

  step-alike : {t : List ℕ} {o : StepOutcome} → Step p s o t → Step q s o t
  step-alike (traps e) = traps (sym same ∙ e)
  step-alike (full e v) = full (sym same ∙ e) v
  step-alike (does e v k) = does (sym same ∙ e) v (done-alike e k)

scalar-step : {p q : Program} {s t : List ℕ} {o : StepOutcome} {a b : Operator} {next : CodeAddress} → NextScalar p s a next → NextScalar q s b next
    → named p.table a ≡ named q.table b → Step p s o t → Step q s o t
scalar-step {p = p} {q = q} {s = s} {a = a} {b = b} {next = next} h k e =
    step-alike (scalar p s a next h ∙ ap (scalar_plan seen next.0) e ∙ sym (scalar q s b next k)) (λ es t g. due es t (finished es (sym (scalar p s a next h) ∙ g)))
  where
    seen : Seen
    seen = seen_of (length s - sbase s) (view s)

    finished : (es : List Effect) → scalar_plan seen next.0 (named p.table a) ≡ gives es → outcome_of es ≡ Finished
    finished es g = subst Finishes g (scalar-finishes seen next.0 (named p.table a))

    due : (es : List Effect) (t : List ℕ) → outcome_of es ≡ Finished
        → due_after (outcome_of es) (flags s) (header_in p.regular p.alternate (view t)) (header_in p.regular p.alternate (view s))
        ≡ due_after (outcome_of es) (flags s) (header_in q.regular q.alternate (view t)) (header_in q.regular q.alternate (view s))
    due es t f = rw f

-- ---- the manual's table

manual-same : (i : Instruction) → under_table manual_table i ≡ i
manual-same (I.Scalar op) = ap I.Scalar (lent-tables.manual_names op)
manual-same (I.Load a) = refl
manual-same (I.ShortConstant negative magnitude) = refl
manual-same (I.Memory op a) = refl
manual-same (I.Stack op) = refl
manual-same (I.Array op) = refl
manual-same (I.Control op) = refl
manual-same (I.Jump jump place) = refl
manual-same (I.ConstantScalar w) = refl
manual-same (I.ConstantVector count first) = refl
manual-same (I.Call arguments alternate number) = refl
manual-same (I.Index rank) = refl

pub table-theorems : TableTheorems
table-theorems = record {
  scalar = scalar;
  scalar_step = scalar-step;
  others = others;
  others_step = λ {p} {s} h table step. step-alike (others p s h table) (λ es t e. refl) step;
  manual = λ f e seen i next. ap (λ (j : Instruction). plan_of f seen j next.0) (ap (λ (table : List ℕ). under_table table i) e ∙ manual-same i);
  manual_tests = λ s p budget. run-told s _ budget ∙ run-manual s p.regular p.alternate ∙ sym (segment-told s p);
}
