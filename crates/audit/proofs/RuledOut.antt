-- The wrong engines of document 01's Agreement, each against what `Did` and `Step` say.
use Prim.Native.Nat.{ℕ, ◌≤◌}
use mathlib.Core.Path.{◌≡◌, refl, sym, ◌∙◌, ap}
use mathlib.Core.Bool.{Bool, true, false, cond, not, ◌&&◌}
use mathlib.Core.Logic.{◌≢◌, ◌⊎◌, ⊎_elim}
use mathlib.Core.List.{List, [], ◌∷◌}
use native.Mathlib.Omega.{arith}
use lib.Dec.{eqb}
use borrow.Author.Tests.{eq-eqb}
use Rattle.procedure.specs.declared.header.Header.{Header}
use Rattle.segment.specs.State.{flags, fcnctrc, fcnrtrc, step_flag}
use Rattle.segment.specs.Cells.{Cell}
use Rattle.segment.specs.View.{view}
use Rattle.acceptance.specs.Refusal.{length_test}
use Rattle.manual.specs.Program.{Program}
use Rattle.manual.specs.OrTrap.{gives}
use Rattle.manual.specs.Effects.{Effect, perform_all}
use Rattle.effects.specs.Carried.{outcome_of}
use Rattle.effects_theorems.proofs.Tests.{never}
use Rattle.step_theorems.specs.Planned.{planned, header_in}
use Rattle.step_theorems.proofs.Settled.{outcome-by}
use Rattle.audit.specs.Calls.{Procedures, Call, lay_out, run, load, look, sheet, Answer, refused, ran, trapped, Test, first_failed, tests, global_value}
use Rattle.audit.specs.Steps.{traps_by, finishes, due_after, EffectsDone, Step, does, in_vain}
use Rattle.audit.specs.Runs.{Runs, over, goes_on}
use Rattle.audit.specs.Did.{Tells, Did}
use Rattle.audit.specs.Lists.{refusal_of}
use Rattle.audit.specs.RuledOut.{TwoDone, RuledOut}
use Rattle.audit.proofs.Runs.{only-vain}
use Rattle.audit.proofs.Demands.{demands}

-- ---- refusals

-- no test of the list has the number
abbrev lacks : ℕ → List Test → Bool
lacks n [] = true
lacks n (x ∷ tests) = not (eqb x.number n) && lacks n tests

abbrev after_first : List Test → List Test
after_first [] = []
after_first (x ∷ tests) = tests

skipped : (same passes more : Bool) (rest number n : ℕ) → (number ≡ n → same ≡ true) → (not same && more) ≡ true → cond passes rest number ≡ n
    → (more ≡ true) × (rest ≡ n)
skipped false true more rest number n sound h e = (h, e)
skipped false false more rest number n sound h e = never (sym (sound e))
skipped true passes more rest number n sound h e = never (sym h)

never_first : (n : ℕ) → n ≢ 0 → (tests : List Test) → lacks n tests ≡ true → first_failed tests ≢ n
never_first n some [] h e = some (sym e)
never_first n some (x ∷ tests) h e =
    let k = skipped (eqb x.number n) x.passes (lacks n tests) (first_failed tests) x.number n (eq-eqb x.number n) h e in
    never_first n some tests k.0 k.1

not-ten : (s : List ℕ) (c : Call) → lacks 10 (after_first (tests s c)) ≡ true
not-ten s (lay_out p l) = refl
not-ten s (run p budget) = refl
not-ten s (load p g lengths ravel) = refl
not-ten s (look p g) = refl
not-ten s (sheet p) = refl

by_length : (s : List ℕ) (c : Call) → first_failed (tests s c) ≡ cond (length_test s) (first_failed (after_first (tests s c))) 10
by_length s (lay_out p l) = refl
by_length s (run p budget) = refl
by_length s (load p g lengths ravel) = refl
by_length s (look p g) = refl
by_length s (sheet p) = refl

always-ten : {s t : List ℕ} {c : Call} → length_test s ≡ true → Did s c (refused 10) t → ⊥
always-ten {s = s} {c = c} long d =
    never_first 10 (λ z. omega (arith, z)) (after_first (tests s c)) (not-ten s c) (sym (by_length s c ∙ rw long) ∙ sym (demands.first.number d))

-- ---- steps

-- a number that neither STEP nor a trace gives is not due
not-due : (es : List Effect) (f : ℕ) (called left : Header) (n : ℕ) → step_flag f ≢ n → n ≤ 1 → due_after (outcome_of es) f called left ≢ n
not-due es f called left n other low =
    outcome-by (λ o. due_after o f called left ≢ n) other (unless (eqb (fcnctrc f) 1 && called.calltrace) 2 (λ z. omega (arith, z, low)))
    (unless (eqb (fcnrtrc f) 1 && left.rtntrace) 3 (λ z. omega (arith, z, low))) (outcome_of es)
  where
    unless : (traced : Bool) (d : ℕ) → d ≢ n → cond traced d (step_flag f) ≢ n
    unless true d far e = far e
    unless false d far e = other e

other_step : {p : Program} {s t : List ℕ} {n : ℕ} → step_flag (flags s) ≢ n → n ≤ 1 → Step p s (finishes n) t → ⊥
other_step {p = p} {s = s} {t = t} {n = n} other low (does {es = es} e v k) =
    not-due es (flags s) (header_in p.regular p.alternate (view t)) (header_in p.regular p.alternate (view s)) n other low (sym k.due)

trap-made-up : {p : Program} {s t : List ℕ} {es : List Effect} {class number : ℕ} → planned s p ≡ gives es
    → in_vain s es ≡ false → Step p s (traps_by class number) t → ⊥
trap-made-up {es = es} e v step = other-case (demands.second.does step es e v)
  where
    other-case : {class number : ℕ} {p : Program} {s t : List ℕ} → (d : ℕ) × (traps_by class number ≡ finishes d) × EffectsDone p s es d t → ⊥
    other-case (d, same, k) = let z : ◌≡◌ {A = ℕ} 0 1 = cc in omega arith

-- ---- looks

same-told : (s : List ℕ) (a : Answer) (c d : Cell) → Tells s a c → Tells s a d → c ≡ d
same-told s a c d h k = ⊎_elim (λ x. ⊎_elim (λ y. cc) (λ y. cc) k) (λ x. ⊎_elim (λ y. cc) (λ y. cc) k) h

one-look : {p : Procedures} {s t u : List ℕ} {g h : ℕ} {a : Answer} → Did s (look p g) a t → Did s (look p h) a u → refusal_of a ≡ 0 → global_value s g ≡ global_value s h
one-look {s = s} {g = g} {h = h} {a = a} d e z = same-told s a (global_value s g) (global_value s h) (demands.second.look d z).0 (demands.second.look e z).0

-- ---- runs

two-done : {p : Program} {s t : List ℕ} {steps n : ℕ} → Runs p 2 steps s (ran n) t → TwoDone p s t
two-done (goes_on a (does {es = es} e v k) (goes_on {s = between} b (does {es = fs} f w l) over)) =
    record { first = es; between = between; second = fs; first_plan = e; second_plan = f; seen = l.seen ∙ ap (perform_all fs) k.seen }

same-steps : {n m : ℕ} → trapped n ≡ trapped m → n ≡ m
same-steps e = cc

no_more : {budget n : ℕ} → (trapped n ≡ ran budget) ⊎ ((m : ℕ) × (trapped n ≡ trapped m) × (m ≤ budget)) → n ≤ budget
no_more h = ⊎_elim (λ e. let z : ◌≡◌ {A = ℕ} 0 1 = cc in absurd (omega arith)) (λ k. omega (arith, same-steps k.1, k.2)) h

pub ruled_out : RuledOut
ruled_out = record {
  always_ten = always-ten;
  step_made_up = λ clear. other_step (λ z. omega (arith, clear, z)) (omega arith);
  trap_made_up = trap-made-up;
  step_ignored = λ on. other_step (λ z. omega (arith, on, z)) (omega arith);
  one_look = one-look;
  only_counts = λ d. two-done (demands.second.run d refl).steps;
  early = λ {n = n} d. (demands.second.run d refl).all n refl;
  steps_made_up = λ d. no_more (demands.first.answers d refl);
  full = λ step. only-vain step refl;
}
