-- What is known of the effects that are planned on an accepted segment.
use Rattle.std.proofs.Common.{Option, Some, None}
use Prim.Native.Nat.{ℕ, ◌-◌}
use mathlib.Core.Path.{◌≡◌, refl, sym, ◌∙◌}
use mathlib.Core.Bool.{true}
use mathlib.Core.List.{List, [], ◌∷◌}
use lib.ListN.{length}
use Rattle.procedure.specs.declared.header.Block.{Block}
use Rattle.procedure.specs.Directory.{function_of}
use Rattle.segment.specs.State.{sbase, lbase}
use Rattle.segment.specs.Stack.{code_word_at, function_number, pctr}
use Rattle.segment.specs.Cells.{Cell}
use Rattle.segment.specs.Machine.{Frame, Machine}
use Rattle.segment.specs.View.{view}
use Rattle.segment.specs.Lent.{Lent}
use Rattle.acceptance.specs.Frames.{frame_segment}
use Rattle.acceptance.specs.Structure.{Accepted}
use Rattle.manual.specs.OrTrap.{gives, trap}
use Rattle.manual.specs.Effects.{Effect, Plan}
use Rattle.manual.specs.Seen.{seen_of}
use Rattle.manual.specs.Program.{Program}
use Rattle.manual.specs.Instructions.{Running, running}
use Rattle.manual.specs.Traps.{listed}
use Rattle.manual.proofs.Traps.{traps-listed}
use Rattle.effects.specs.Seen.{seen}
use Rattle.effects_theorems.specs.Theorems.{EntersFirst}
use Rattle.plan_theorems.specs.Fitting.{Fitting}
use Rattle.plan_theorems.proofs.PlansFit.{plans-fit}
use Rattle.plan_theorems.specs.Bounded.{AllSmall}
use Rattle.plan_theorems.proofs.Bounded.{bounded-theorems}
use Rattle.legality.proofs.Accepted.{legal-theorems}
use Rattle.legality.specs.Legal.{function_word}
use Rattle.legality.specs.Kept.{KeepsLegal}
use Rattle.legality.proofs.Kept.{kept-theorems}
use Rattle.step_theorems.specs.Planned.{frame_selector, plan_in, plan_from, next_plan, planned}
use Rattle.step_theorems.proofs.Entering.{plan-enters}
use Rattle.step_theorems.proofs.Current.{current-function, runs, runs-in, plan-is, decodes}
use Rattle.step_theorems.proofs.Again.{sound-of}

pub record Known (s regular alternate : List ℕ) (es : List Effect) : Type 0 where
  pub fitting : Fitting s es
  pub first : EntersFirst es
  pub kept : KeepsLegal regular alternate (view s) es
  pub small : AllSmall es

module _ (s : List ℕ) (p : Program) (lent : Lent s p.regular p.alternate) (h : Accepted s p.regular p.alternate) where
  abbrev f : Running
  f = current-function s p

  pub plan-known : (es : List Effect) → planned s p ≡ gives es → Known s p.regular p.alternate es
  plan-known es e =
      let sound = sound-of h in
      let d = decodes s p h sound es e in
      let i = d.instruction in
      record {
        fitting = plans-fit.fitting s sound lent.words f (runs s p h) i d.next es d.by_words;
        first = plan-enters f (seen s) i d.next es d.by_words;
        kept = kept-theorems.kept (legal-theorems.split s p.regular p.alternate h).legal (runs-in s p h) (length s - sbase s) i d.next d.by_cells;
        small = bounded-theorems.plan s sound lent.words f lent.regular_bytes lent.other_bytes (runs s p h)
            (pctr (code_word_at s (lbase s))) es (sym (plan-is s p h sound) ∙ e);
      }

-- ---- traps

trap-same : (a b class number : ℕ) → listed a b ≡ true → ◌≡◌ {A = Plan} (trap a b) (trap class number) → listed class number ≡ true
trap-same a b class number h e =
    let c : a ≡ class = cc in
    let n : b ≡ number = cc in
    rw (c, n) at h

-- every trap that is planned is one of the manual's list
module _ (p : Program) (words : ℕ) (m : Machine Cell) (class number : ℕ) where
  abbrev Listed : Plan → Type 0
  Listed plan = plan ≡ trap class number → listed class number ≡ true

  no_code : Listed (trap 3 1)
  unfolding listed
  no_code = trap-same 3 1 class number refl

  found-listed : (r : Frame Cell) (f : Option Block) → Listed (plan_in p words m r f)
  found-listed r (Some block) =
      (traps-listed.at_place (running p (frame_selector r) block) (seen_of words m) (traps-listed.machines words m) r.pctr).in_table class number
  found-listed r None = no_code

  frames-listed : (l : List (Frame Cell)) → Listed (plan_from p words m l)
  frames-listed [] = no_code
  frames-listed (r ∷ older) = found-listed r (function_of (frame_segment p.regular p.alternate (function_word r)) (function_number (function_word r)))

  pub plan-listed : Listed (next_plan p words m)
  unfolding next_plan
  plan-listed = frames-listed m.frames
