-- A step of an accepted segment is a `Step`, by the cases of its plan.
use Prim.Native.Nat.{ℕ, ◌-◌, ◌/◌, ◌%◌, ◌^◌, ◌<◌, ◌≤◌}
use mathlib.Core.Path.{◌≡◌, refl, sym, ◌∙◌, ap, subst}
use mathlib.Core.Bool.{Bool, true, false, cond, ◌&&◌}
use mathlib.Core.List.{List}
use mathlib.Core.Logic.{◌≢◌}
use native.Mathlib.Omega.{arith}
use lib.Dec.{eqb}
use lib.ListN.{get_or, set, length, length-set}
use lib.Seq.{get_or-set_same, get_or-set_other}
use borrow.Author.Tests.{eq-eqb, ne_eqb}
use Rattle.descriptor.specs.declared.Target.{Target}
use Rattle.procedure.specs.declared.header.Header.{Header}
use Rattle.segment.specs.State.{sbase, flags, fcnctrc, fcnrtrc, step_flag, trap_word, trap_of, set_trap}
use Rattle.segment.specs.Cells.{Cell, undefined}
use Rattle.segment.specs.Machine.{Machine}
use Rattle.segment.specs.View.{view}
use Rattle.segment.specs.Lent.{Words, Lent}
use Rattle.segment.proofs.Words.{words-set}
use Rattle.acceptance.specs.Structure.{Accepted}
use Rattle.manual.specs.Program.{Program}
use Rattle.manual.specs.OrTrap.{gives, trap}
use Rattle.manual.specs.Effects.{NoneStoresTo, Effect, Plan, look, AddressableIn}
use Rattle.manual.specs.Instructions.{Running, header_of}
use Rattle.manual.proofs.Traps.{traps-listed}
use Rattle.effects.specs.Sound.{Sound}
use Rattle.effects.specs.Perform.{performs, first_full}
use Rattle.effects_theorems.specs.Theorems.{StateKept, PerformedAll}
use Rattle.effects_theorems.proofs.State.{trap-view}
use Rattle.effects_theorems.proofs.Variables.{in-view}
use Rattle.effects_theorems.proofs.Theorems.{effects-theorems}
use Rattle.plan_theorems.proofs.Bounded.{bounded-theorems}
use Rattle.effects.specs.declared.Outcome.{Outcome as Turn}
use Rattle.effects.specs.declared.Outcome.TheVariants as T
use Rattle.effects.specs.Carried.{outcome_of, carry}
use Rattle.std.specs.Prelude.{Result, Ok, Err}
use Rattle.trap.specs.Trap as traps
use Rattle.trap.specs.declared.Trap.{Trap}
use Rattle.effects.specs.declared.Stepped.{Stepped}
use Rattle.effects.specs.declared.Stepped.TheVariants as S
use Rattle.effects.specs.Step as stepping
use Rattle.effects.specs.Step.{StepResult, finished, due, settle, step_of, current_header}
use Rattle.step_theorems.specs.Planned.{planned, header_in}
use Rattle.step_theorems.proofs.Current.{current-function, step_is, header-seen, header-running}
use Rattle.step_theorems.proofs.Planned.{Known, plan-known, plan-listed}
use Rattle.step_theorems.proofs.Again.{sound-of, view-flags, trap-accepted, effects-accepted}
use Rattle.step_theorems.proofs.Settled.{finished-by, finished-keeps}
use Rattle.audit.specs.Steps.{StepOutcome, traps_by, finishes, in_vain, due_after, EffectsDone, Step, traps, full, does}
use Rattle.audit.proofs.Full.{vain-full}

-- ---- what is due

-- flags but IORG say what is due
module _ (f g : ℕ) (h : f / 2 ≡ g / 2) where
  same_step : step_flag f ≡ step_flag g
  same_step = omega arith

  same-call : fcnctrc f ≡ fcnctrc g
  same-call = omega arith

  same-return : fcnrtrc f ≡ fcnrtrc g
  same-return = omega arith

  same-due : (turn : Turn) (called left : Header) → due_after turn f called left ≡ due_after turn g called left
  same-due T.Finished called left = same_step
  same-due T.Entered called left = rw (same-call, same_step)
  same-due T.Left called left = rw (same-return, same_step)

due-told : (regular alternate : List ℕ) (left : Header) (turn : Turn) (t : List ℕ)
    → due regular alternate left.rtntrace turn t ≡ due_after turn (flags t) (current_header regular alternate t) left
due-told regular alternate left T.Finished t = refl
due-told regular alternate left T.Entered t = refl
due-told regular alternate left T.Left t = refl

due-low : (b : Bool) (n f : ℕ) → n ≤ 3 → cond b n (step_flag f) ≤ 3
due-low true n f h = h
due-low false n f h = omega arith

-- (2,1), (2,2) or (2,3)
pub due-small : (turn : Turn) (f : ℕ) (called left : Header) → due_after turn f called left ≤ 3
due-small T.Finished f called left = omega arith
due-small T.Entered f called left = due-low (eqb (fcnctrc f) 1 && called.calltrace) 2 f (omega arith)
due-small T.Left f called left = due-low (eqb (fcnrtrc f) 1 && left.rtntrace) 3 f (omega arith)

-- ---- what a step's answer comes to

abbrev pub outcome_from : Result Stepped Trap → StepOutcome
outcome_from (Ok S.Finished) = finishes 0
outcome_from (Ok (S.Traced t)) = finishes t.number
outcome_from (Err t) = traps_by t.class t.number

-- what is due after a traced instruction
abbrev pub Some : Result Stepped Trap → Type 0
Some (Ok S.Finished) = Unit {0}
Some (Ok (S.Traced t)) = t.number ≢ 0
Some (Err t) = Unit {0}

module _ (s : List ℕ) (p : Program) (lent : Lent s p.regular p.alternate) (h : Accepted s p.regular p.alternate) where
  abbrev regular : List ℕ
  regular = p.regular

  abbrev alternate : List ℕ
  alternate = p.alternate

  abbrev f : Running
  f = current-function s p

  abbrev sound : Sound s
  sound = sound-of h

  abbrev plan : Plan
  plan = planned s p

  abbrev StepOf : StepResult → Type 0
  StepOf r = Step p s (outcome_from r.answer) r.words × Some r.answer

  known : (es : List Effect) → plan ≡ gives es → Known s regular alternate es
  known = plan-known s p lent h

  -- ---- a step, by its plan

  step-of : (q : Plan) → plan ≡ q → step_of p s ≡ settle regular alternate (header_of f).rtntrace (carry s q)
  step-of q e = step_is s p h sound ∙ ap (λ (q : Plan). settle regular alternate (header_of f).rtntrace (carry s q)) e

  trap-step : (class number : ℕ) → plan ≡ trap class number → step_of p s ≡ stepping.trapped s class number
  trap-step class number e = step-of (trap class number) e

  trap-small : (class number : ℕ) → class < 2 ^ 8 → number < 2 ^ 8 → stepping.trapped s class number ≡ stepping.step_result (Err (traps.trap_of class number)) (set s 3 (trap_of class number))
  unfolding set_trap
  trap-small class number c n =
      let a : class % 2 ^ 8 ≡ class = omega arith in
      let b : number % 2 ^ 8 ≡ number = omega arith in
      rw (a, b)

  module _ (es : List Effect) (e : plan ≡ gives es) where
    abbrev t : List ℕ
    t = performs s es

    abbrev d : ℕ
    d = due regular alternate (header_of f).rtntrace (outcome_of es) (performs s es)

    full-step : first_full s es ≡ true → step_of p s ≡ stepping.trapped s 1 2
    full-step q = step-of (gives es) e ∙ rw q

    -- the request, by the words and by the free blocks
    vain : first_full s es ≡ in_vain s es
    vain = vain-full s regular alternate h es (known es e).fitting.first

    module _ (q : first_full s es ≡ false) where
      served : in_vain s es ≡ false
      served = sym vain ∙ q

      done-step : step_of p s ≡ finished d t
      done-step = step-of (gives es) e ∙ rw q

      performed : PerformedAll s es
      performed = let k = (known es e).fitting in effects-theorems.all_performed s sound es k.all k.once q

      kept : StateKept s t
      kept = let k = (known es e).fitting in effects-theorems.all_kept s sound es k.all k.once q

      done-accepted : Accepted t regular alternate
      done-accepted = effects-accepted s regular alternate h es performed kept (known es e).kept

      others : (u : Target) → AddressableIn u (view s) → AddressableIn u (view t) → NoneStoresTo es u → look undefined u (view t) ≡ look undefined u (view s)
      others u before after none =
          let k = (known es e).fitting in
          effects-theorems.all_others s sound es k.all k.once q u
          (effects-theorems.stands s sound es k.all k.once q (known es e).first u ((in-view s u).1 before) ((in-view t u).1 after)) none

      same_flags : flags t / 2 ≡ flags s / 2
      same_flags =
          ap (λ (n : ℕ). n / 2) (sym (view-flags t) ∙ ap (λ (m : Machine Cell). m.flags) performed.seen)
          ∙ (known es e).kept.flags
          ∙ ap (λ (n : ℕ). n / 2) (view-flags s)

      is-due : d ≡ due_after (outcome_of es) (flags s) (current_header regular alternate t) (header_in regular alternate (view s))
      is-due =
          due-told regular alternate (header_of f) (outcome_of es) t
          ∙ same-due (flags t) (flags s) same_flags (outcome_of es) (current_header regular alternate t) (header_of f)
          ∙ ap (due_after (outcome_of es) (flags s) (current_header regular alternate t)) (sym (header-running s p))

      small : d ≤ 3
      small = subst (λ (n : ℕ). n ≤ 3) (sym (due-told regular alternate (header_of f) (outcome_of es) t)) (due-small (outcome_of es) (flags t) (current_header regular alternate t) (header_of f))

      -- whether or not a trap is due, and its word written
      module _ (u : List ℕ) (same : view u ≡ view t) (long : length u ≡ length t) (rest : (i : ℕ) → i ≢ 3 → get_or u i 0 ≡ get_or t i 0)
          (written : trap_word u ≡ cond (eqb d 0) (trap_word t) (trap_of 2 d)) where
        done-as : EffectsDone p s es d u
        done-as = record {
          seen = same ∙ performed.seen;
          others = λ v before after none. ap (look undefined v) same ∙ others v before (subst (AddressableIn v) same after) none;
          due = is-due ∙ ap (λ (c : Header). due_after (outcome_of es) (flags s) c (header_in regular alternate (view s)))
              (sym (header-seen regular alternate t) ∙ ap (header_in regular alternate) (sym same));
          trap_word = written ∙ ap (λ (w : ℕ). cond (eqb d 0) w (trap_of 2 d)) (kept.rest 3 (omega arith) (omega arith));
          length = long ∙ kept.long;
          sbase = ap (λ (w : ℕ). w / 2 ^ 16) (rest 0 (omega arith)) ∙ kept.base;
          blockptr = rest 4 (omega arith) ∙ kept.rest 4 (omega arith) (omega arith);
          flags = ap (λ (w : ℕ). w / 2) (rest 2 (omega arith)) ∙ same_flags;
        }

      silent : d ≡ 0 → Step p s (finishes 0) t
      silent z =
          subst (λ (n : ℕ). Step p s (finishes n) t) z
          (does e served (done-as t refl refl (λ i n. refl) (rw (eq-eqb d 0 z))))

      traced : d ≢ 0 → Step p s (finishes d) (set_trap t 2 d)
      unfolding set_trap
      traced n =
          let there : 3 < length t = omega (arith, kept.long, h.shortest) in
          let word : trap_word (set t 3 (trap_of 2 d)) ≡ trap_of 2 d = rw get_or-set_same in
          does e served
          (done-as (set t 3 (trap_of 2 d)) (trap-view t performed.sound (trap_of 2 d)) (length-set t 3 (trap_of 2 d)) (λ i k. rw get_or-set_other)
          (word ∙ rw (ne_eqb d 0 n)))

      done-is : StepOf (finished d t)
      done-is = finished-by d t StepOf (λ z. (silent z, tt)) (λ n. (traced n, n))

  -- ---- the step

  pub step-done : StepOf (step_of p s)
  step-done = go plan refl
    where
      gone : (es : List Effect) → plan ≡ gives es → (b : Bool) → first_full s es ≡ b → StepOf (step_of p s)
      gone es e true q = subst StepOf (sym (full-step es e q ∙ trap-small 1 2 (omega arith) (omega arith))) (full e (sym (vain es e) ∙ q), tt)
      gone es e false q = subst StepOf (sym (done-step es e q)) (done-is es e q)

      go : (q : Plan) → plan ≡ q → StepOf (step_of p s)
      go (gives es) e = gone es e (first_full s es) refl
      go (trap class number) e =
          let l = plan-listed p (length s - sbase s) (view s) class number e in
          subst StepOf (sym (trap-step class number e ∙ trap-small class number (traps-listed.class class number l) (traps-listed.number class number l))) (traps e, tt)

  -- what holds of the segment, is kept by the effects of its plan, and goes by no trap
  step_keeps : (P : List ℕ → Type 0) → ((t : List ℕ) → P t → (v : ℕ) → v < 2 ^ 16 → P (set t 3 v)) → P s
      → ((es : List Effect) → plan ≡ gives es → first_full s es ≡ false → P (performs s es)) → P (step_of p s).words
  unfolding set_trap
  step_keeps P trapping start effects = go plan refl
    where
      stopped : (class number : ℕ) → step_of p s ≡ stepping.trapped s class number → P (step_of p s).words
      stopped class number q = rw q (trapping s start _ (omega arith))

      gone : (es : List Effect) → plan ≡ gives es → (b : Bool) → first_full s es ≡ b → P (step_of p s).words
      gone es e true q = stopped 1 2 (full-step es e q)
      gone es e false q =
          rw (done-step es e q)
          (finished-keeps (d es e) (t es e) (small es e q) P (trapping (t es e) (effects es e q)) (effects es e q))

      go : (q : Plan) → plan ≡ q → P (step_of p s).words
      go (gives es) e = gone es e (first_full s es) refl
      go (trap class number) e = stopped class number (trap-step class number e)

  -- what is left is accepted again, and of 32-bit words
  pub step-accepted : Accepted (step_of p s).words regular alternate
  step-accepted = step_keeps (λ t. Accepted t regular alternate) (λ t k v l. trap-accepted t regular alternate k v l) h done-accepted

  pub step_words : Words (step_of p s).words
  step_words =
      step_keeps Words (λ t k v l. words-set t k 3 v (omega arith)) lent.words (λ es e q.
      let k = known es e in
      bounded-theorems.effects s sound lent.words es k.fitting.all k.fitting.once q k.small)
