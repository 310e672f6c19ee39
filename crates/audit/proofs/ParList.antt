-- A step leaves the value of every variable that it does not store to: where its request is served by `Done`, and where it is not
-- because a trap changes no cell.
use Prim.Native.Nat.{ℕ, ◌+◌, ◌<◌}
use mathlib.Core.Path.{◌≡◌, refl, ◌∙◌, ap}
use mathlib.Core.Bool.{Bool, true, false}
use mathlib.Core.Logic.{◌⊎◌, inl, inr, ⊎_elim}
use mathlib.Core.List.{List}
use native.Mathlib.Omega.{arith}
use lib.ListN.{length}
use Rattle.descriptor.specs.declared.Target.{Target}
use Rattle.descriptor.specs.declared.Target.TheVariants.{Global}
use Rattle.descriptor.specs.Kinds.{segment}
use Rattle.segment.specs.Cells.{Cell, undefined}
use Rattle.segment.specs.Machine.{Machine}
use Rattle.segment.specs.View.{view}
use Rattle.manual.specs.OrTrap.{gives}
use Rattle.manual.specs.Effects.{Effect, NoneStoresTo, look, AddressableIn}
use Rattle.effects_theorems.proofs.State.{trap-view}
use Rattle.legality.proofs.Cells.{globals-length}
use Rattle.manual.specs.Program.{Program}
use Rattle.step_theorems.specs.Planned.{planned}
use Rattle.step_theorems.proofs.Again.{sound-of}
use Rattle.operations.specs.Load.{is_global}
use Rattle.audit.specs.Calls.{procedures_of, Passes, global_value}
use Rattle.audit.specs.Steps.{StepOutcome, EffectsDone, Step, in_vain}
use Rattle.audit.specs.ParList.{ParList}
use Rattle.audit.proofs.Accepts.{accepted-of}
use Rattle.audit.proofs.Runs.{vain-traps}
use Rattle.audit.proofs.Look.{global-within}
use Rattle.audit.proofs.Demands.{demand-2}

module _ (s : List ℕ) (p : Program) (t : List ℕ) (h : Passes s (procedures_of p)) (es : List Effect)
    (e : planned s p ≡ gives es) where
  -- the request is not served, and no cell changes; or the effects are done
  abbrev Left : Type 0
  Left = (view t ≡ view s) ⊎ (d : ℕ) × EffectsDone p s es d t

  left : (o : StepOutcome) → Step p s o t → Left
  left o k = go (in_vain s es) refl
    where
      go : (b : Bool) → in_vain s es ≡ b → Left
      go true v = inl (ap view (vain-traps k (es, e, v)).1 ∙ trap-view s (sound-of (accepted-of s (procedures_of p) h)) _)
      go false v = let d = demand-2.does k es e v in inr (d.0, d.2)

  module _ (o : StepOutcome) (k : Step p s o t) where
    unchanged : (u : Target) → AddressableIn u (view s) → AddressableIn u (view t) → NoneStoresTo es u → look undefined u (view t) ≡ look undefined u (view s)
    unchanged u before after none = ⊎_elim (λ q. ap (look undefined u) q) (λ d. d.1.others u before after none) (left o k)

    globals-stay : length (view t).globals ≡ length (view s).globals
    globals-stay =
        ⊎_elim (λ q. ap (λ (m : Machine Cell). length m.globals) q)
        (λ d. omega (arith, globals-length s, globals-length t, d.1.blockptr)) (left o k)

    global : (g : ℕ) → is_global s g ≡ true → NoneStoresTo es (Global (segment g)) → global_value t g ≡ global_value s g
    global g i none =
        let b = global-within s g i in
        let there : g < 8 + length (view s).globals = omega (arith, b, globals-length s) in
        unchanged (Global (segment g)) (b.0, there) (b.0, omega (arith, there, globals-stay)) none

pub par-list : ParList
par-list = record {
  unchanged = λ s p o t h k es e. unchanged s p t h es e o k;
  global = λ s p o t h k es e. global s p t h es e o k;
}
