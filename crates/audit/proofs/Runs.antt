-- A run of an accepted segment, one step after the other.
use Prim.Native.Nat.{ℕ, zero, suc, ◌+◌, ◌-◌, ◌<◌, ◌≤◌}
use mathlib.Core.Path.{◌≡◌, refl, sym, ◌∙◌, ap}
use mathlib.Core.Bool.{true, cond}
use mathlib.Core.Logic.{◌↔◌, ◌⊎◌, inl, inr, ⊎_elim}
use mathlib.Core.List.{List}
use native.Mathlib.Omega.{arith}
use lib.Dec.{eqb}
use lib.ListN.{set, length}
use lib.Seq.{get_or-set_same}
use borrow.Author.Tests.{ne_eqb}
use Rattle.segment.specs.State as state
use Rattle.segment.specs.State.{sbase, trap_word}
use Rattle.segment.specs.View.{view}
use Rattle.segment.specs.Lent.{Words, Lent}
use Rattle.segment.proofs.Words.{words-set}
use Rattle.acceptance.specs.Structure.{Accepted}
use Rattle.manual.specs.Program.{Program}
use Rattle.manual.specs.Traps.{listed}
use Rattle.manual.proofs.Traps.{traps-listed}
use Rattle.tally.specs.Counts.{counted}
use Rattle.std.specs.Prelude.{Result, Ok, Err}
use Rattle.trap.specs.declared.Trap.{Trap}
use Rattle.effects.specs.declared.Stepped.{Stepped}
use Rattle.effects.specs.declared.Stepped.TheVariants as S
use Rattle.effects.specs.declared.Ran.{Ran}
use Rattle.effects.specs.Step.{step_of}
use Rattle.effects.specs.Run as stepping
use Rattle.effects.specs.Run.{following, steps_from, run_of}
use Rattle.effects.specs.Tally.{first_byte, tallying, tallied_from}
use Rattle.effects_theorems.proofs.Tests.{never}
use Rattle.std.proofs.Common.{Ok}
use Rattle.step_theorems.proofs.Again.{trap-accepted}
use Rattle.step_theorems.proofs.Planned.{plan-listed}
use Rattle.audit.specs.Calls.{procedures_of, Answer, ran, trapped, run_answer, Passes}
use Rattle.audit.specs.Steps.{StepOutcome, traps_by, finishes, Step, traps, full, does, in_vain}
use Rattle.audit.specs.Runs.{Runs, over, goes_on, traced, stops, RequestInVain, SomeRequestInVain, ReportsFull}
use Rattle.audit.specs.Replays.{counts_after}
use Rattle.audit.proofs.Accepts.{accepted-of, passes_of}
use Rattle.audit.proofs.Steps.{outcome_from, Some, step-done, step-accepted, step_words}

abbrev pub answer_of : Ran → Answer
answer_of r = run_answer (Ok r)

-- What a segment must be for its steps to be the manual's.
pub record Ready (s : List ℕ) (p : Program) : Type 0 where
  pub lent : Lent s p.regular p.alternate
  pub accepted : Accepted s p.regular p.alternate

module _ (p : Program) where
  abbrev regular : List ℕ
  regular = p.regular

  abbrev alternate : List ℕ
  alternate = p.alternate

  lent_again : (s t : List ℕ) → Lent s regular alternate → Words t → Lent t regular alternate
  lent_again s t lent words = record { words = words; regular_bytes = lent.regular_bytes; other_bytes = lent.other_bytes }

  next-ready : (s : List ℕ) → Ready s p → Ready (step_of p s).words p
  next-ready s r = record {
    lent = lent_again s (step_of p s).words r.lent (step_words s p r.lent r.accepted);
    accepted = step-accepted s p r.lent r.accepted;
  }

  -- the instruction of `s` has finished
  abbrev more : List ℕ → List ℕ → List ℕ
  more s before = counted (first_byte regular alternate s) before

  -- with the counts that the steps leave of those before them
  pub record RanFrom (budget steps : ℕ) (s : List ℕ) (o : stepping.RunResult) (tally : List ℕ → List ℕ) : Type 0 where
    pub runs : Runs p budget steps s (answer_of o.answer) o.words
    pub ready : Ready o.words p
    pub counts : (before : List ℕ) → counts_after runs before ≡ tally before

  abbrev RunsOn : ℕ → ℕ → List ℕ → Type 0
  RunsOn budget steps s = RanFrom budget steps s (steps_from budget steps p s) (λ before. tallied_from budget before p s)

  run-from : (budget steps : ℕ) (s : List ℕ) → Ready s p → RunsOn budget steps s
  unfolding steps_from tallied_from
  run-from zero steps s r = record { runs = over; ready = r; counts = λ before. refl }
  run-from (suc budget) steps s r =
      go (step_of p s).answer (step_of p s).words (step-done s p r.lent r.accepted) (next-ready s r)
      (λ t k. run-from budget (steps + 1) t k)
    where
      go : (answer : Result Stepped Trap) (t : List ℕ) → Step p s (outcome_from answer) t × Some answer → Ready t p → ((u : List ℕ) → Ready u p → RunsOn budget (steps + 1) u)
          → RanFrom (suc budget) steps s (following steps answer t (λ u. steps_from budget (steps + 1) p u))
          (λ before. tallying answer before (more s before) (λ after. tallied_from budget after p t))
      go (Ok S.Finished) t e k later =
          let rest = later t k in
          record { runs = goes_on (passes_of s (procedures_of p) r.accepted) e.0 rest.runs; ready = rest.ready; counts = λ before. rest.counts (more s before) }
      go (Ok (S.Traced trap)) t e k later = record { runs = traced (passes_of s (procedures_of p) r.accepted) e.1 e.0; ready = k; counts = λ before. refl }
      go (Err trap) t e k later = record { runs = stops (passes_of s (procedures_of p) r.accepted) e.0; ready = k; counts = λ before. refl }

  -- a run sets word 3 to zero first
  started : (s : List ℕ) → Ready s p → Ready (set s 3 0) p
  started s r = record {
    lent = lent_again s (set s 3 0) r.lent (words-set s r.lent.words 3 0 (omega arith));
    accepted = trap-accepted s regular alternate r.accepted 0 (omega arith);
  }

  pub run_ran : (s : List ℕ) → Ready s p → (budget : ℕ) → RanFrom budget 0 (set s 3 0) (run_of p s budget) (λ before. tallied_from budget before p (set s 3 0))
  unfolding run_of
  run_ran s r budget = run-from budget 0 (set s 3 0) (started s r)

-- ---- the trap word, and what was counted

-- what a step leaves in the trap word
abbrev Left : StepOutcome → List ℕ → List ℕ → Type 0
Left (traps_by class number) s t = t ≡ set s 3 (state.trap_of class number)
Left (finishes d) s t = trap_word t ≡ cond (eqb d 0) (trap_word s) (state.trap_of 2 d)

pub step_left : {p : Program} {s t : List ℕ} {o : StepOutcome} → Step p s o t → Left o s t
step_left (traps e) = refl
step_left (full e v) = refl
step_left (does e v k) = k.trap_word

-- all was done, and the trap word stayed; or a trap came, and no more was counted than was asked
abbrev Ended : ℕ → ℕ → List ℕ → Answer → List ℕ → Type 0
Ended budget steps s answer t =
    ((answer ≡ ran (steps + budget)) × (trap_word s ≡ 0 → trap_word t ≡ 0)) ⊎ ((n : ℕ) × (answer ≡ trapped n) × (n ≤ steps + budget))

ended : {p : Program} {budget steps : ℕ} {s t : List ℕ} {answer : Answer} → Runs p budget steps s answer t → Ended budget steps s answer t
ended over = inl (ap ran (omega arith), λ z. z)
ended (goes_on {budget = budget} {steps = steps} {s = s} {t = t} {u = u} {answer = answer} passes e rest) = ⊎_elim all_done trapped-later (ended rest)
  where
    all_done : (answer ≡ ran (steps + 1 + budget)) × (trap_word t ≡ 0 → trap_word u ≡ 0) → Ended (suc budget) steps s answer u
    all_done h = inl (h.0 ∙ ap ran (omega arith), λ z. h.1 (step_left e ∙ z))

    trapped-later : (n : ℕ) × (answer ≡ trapped n) × (n ≤ steps + 1 + budget) → Ended (suc budget) steps s answer u
    trapped-later h = inr (h.0, h.1, omega (arith, h.2))
ended (traced {steps = steps} passes some e) = inr (steps + 1, refl, omega arith)
ended (stops {steps = steps} passes e) = inr (steps, refl, omega arith)

pub run-answers : {p : Program} {budget : ℕ} {s t : List ℕ} {answer : Answer} → Runs p budget 0 s answer t
    → (answer ≡ ran budget) ⊎ ((n : ℕ) × (answer ≡ trapped n) × (n ≤ budget))
run-answers {budget = budget} r =
    ⊎_elim (λ h. inl (h.0 ∙ ap ran (omega arith))) (λ h. inr (h.0, h.1, omega (arith, h.2))) (ended r)

pub run-all : {p : Program} {budget : ℕ} {s t : List ℕ} {answer : Answer} → Runs p budget 0 s answer t → trap_word s ≡ 0
    → (n : ℕ) → answer ≡ ran n → (n ≡ budget) × (trap_word t ≡ 0)
run-all {budget = budget} r z n e =
    ⊎_elim (λ h. let k : n ≡ 0 + budget = cc in (omega arith, h.1 z)) (λ h. let k : ◌≡◌ {A = ℕ} 0 1 = cc in absurd (omega arith)) (ended r)

-- ---- storage full

-- a step whose instruction asks in vain is (1,2), and (1,2) comes of nothing else
abbrev Vain : Program → List ℕ → StepOutcome → List ℕ → Type 0
Vain p s o t = RequestInVain p s → (o ≡ traps_by 1 2) × (t ≡ set s 3 (state.trap_of 1 2))

pub vain-traps : {p : Program} {s t : List ℕ} {o : StepOutcome} → Step p s o t → Vain p s o t
vain-traps (traps e) k = let z : ◌≡◌ {A = ℕ} 0 1 = cc in absurd (omega arith)
vain-traps (full e v) k = (refl, refl)
vain-traps {s = s} (does {es = es} e v d) k =
    let same : es ≡ k.0 = cc in
    never (sym k.2 ∙ ap (in_vain s) (sym same) ∙ v)

abbrev OnlyVain : Program → List ℕ → StepOutcome → Type 0
OnlyVain p s (traps_by class number) = state.trap_of class number ≡ state.trap_of 1 2 → RequestInVain p s
OnlyVain p s (finishes d) = Unit {0}

never-full : listed 1 2 ≡ true → ⊥
unfolding listed
never-full e = never (sym e)

pub only-vain : {p : Program} {s t : List ℕ} {o : StepOutcome} → Step p s o t → OnlyVain p s o
only-vain {p = p} {s = s} (traps {class = class} {number = number} e) = λ w.
    let l = plan-listed p (length s - sbase s) (view s) class number e in
    let k = traps-listed.class class number l in
    let j = traps-listed.number class number l in
    let c : class ≡ 1 = omega (arith, w, k, j) in
    let n : number ≡ 2 = omega (arith, w, k, j) in
    absurd (never-full (rw (c, n) at l))
only-vain (full {es = es} e v) = λ w. (es, e, v)
only-vain (does e v d) = tt

trap-read : (s : List ℕ) (p : Program) → Passes s (procedures_of p) → (v : ℕ) → trap_word (set s 3 v) ≡ v
trap-read s p h v = let l : 3 < length s = omega (arith, (accepted-of s (procedures_of p) h).shortest) in rw get_or-set_same

reports : {p : Program} {budget steps : ℕ} {s t : List ℕ} {answer : Answer} → (r : Runs p budget steps s answer t) → ReportsFull answer t → SomeRequestInVain r
reports over f = let z : ◌≡◌ {A = ℕ} 0 1 = cc f.answered in absurd (omega arith)
reports (goes_on passes e rest) f = inr (reports rest f)
reports (traced {d = d} {t = t} passes some e) f =
    let w : trap_word t ≡ state.trap_of 2 d = rw (ne_eqb d 0 some) at (step_left e) in
    absurd (omega (arith, f.trap, w))
reports {p = p} (stops {class = class} {number = number} {s = s} passes e) f =
    only-vain e (sym (trap-read s p passes (state.trap_of class number)) ∙ ap trap_word (sym (step_left e)) ∙ f.trap)

reported : {p : Program} {budget steps : ℕ} {s t : List ℕ} {answer : Answer} → (r : Runs p budget steps s answer t) → SomeRequestInVain r → ReportsFull answer t
reported over k = absurd k
reported (goes_on passes e rest) k = ⊎_elim (λ v. let q = vain-traps e v in let z : ◌≡◌ {A = ℕ} 0 1 = cc in absurd (omega arith)) (λ v. reported rest v) k
reported (traced passes some e) k = let q = vain-traps e k in let z : ◌≡◌ {A = ℕ} 0 1 = cc in absurd (omega arith)
reported {p = p} (stops {steps = steps} {s = s} passes e) k =
    record { steps = steps; answered = refl; trap = ap trap_word (vain-traps e k).1 ∙ trap-read s p passes (state.trap_of 1 2) }

pub run-full : {p : Program} {budget steps : ℕ} {s t : List ℕ} {answer : Answer} → (r : Runs p budget steps s answer t) → ReportsFull answer t ↔ SomeRequestInVain r
run-full r = (reports r, reported r)
