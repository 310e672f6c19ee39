-- The auditor's question: can a write into one list change another? Two globals may share one block: where an element of the one
-- is written, the other is seen as before. Assumes nothing.
use Rattle.std.specs.Prelude.{ℕ, ◌≡◌, true, List}
use Rattle.descriptor.specs.declared.Target.{Target}
use Rattle.descriptor.specs.declared.Target.TheVariants.{Global}
use Rattle.descriptor.specs.Kinds.{segment}
use Rattle.segment.specs.Cells.{undefined}
use Rattle.segment.specs.View.{view}
use Rattle.manual.specs.OrTrap.{gives}
use Rattle.manual.specs.Effects.{Effect, NoneStoresTo, look, AddressableIn}
use Rattle.operations.specs.Load.{is_global}
use Rattle.manual.specs.Program.{Program}
use Rattle.step_theorems.specs.Planned.{planned}
use Rattle.audit.specs.Calls.{procedures_of, Passes, global_value}
use Rattle.audit.specs.Steps.{StepOutcome, Step}

pub record ParList : Type 0 where
  -- A step of any instruction, finished or trapped, leaves the value of every variable that it does not store to, whatever
  -- shares storage.
  pub unchanged : (s : List ℕ) (p : Program) (o : StepOutcome) (t : List ℕ) → Passes s (procedures_of p) → Step p s o t
      → (es : List Effect) → planned s p ≡ gives es
      → (u : Target) → AddressableIn u (view s) → AddressableIn u (view t) → NoneStoresTo es u → look undefined u (view t) ≡ look undefined u (view s)
  -- So a global that no effect of the instruction names keeps its value: what a look told of it before, a look tells after.
  pub global : (s : List ℕ) (p : Program) (o : StepOutcome) (t : List ℕ) → Passes s (procedures_of p) → Step p s o t
      → (es : List Effect) → planned s p ≡ gives es
      → (g : ℕ) → is_global s g ≡ true → NoneStoresTo es (Global (segment g)) → global_value t g ≡ global_value s g
