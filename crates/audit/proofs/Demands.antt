-- The demands: what `Did` and `Step` say of each call and each instruction, and by induction of every list of calls.
use Prim.Native.Nat.{ℕ, ◌-◌, ◌≤◌}
use mathlib.Core.Path.{◌≡◌, refl, sym, ◌∙◌, ap, subst}
use mathlib.Core.Bool.{true, false}
use mathlib.Core.Logic.{◌↔◌, ◌≢◌, inl, inr, ⊎_elim}
use mathlib.Core.List.{List, [], ◌∷◌, ◌++◌, map}
use native.Mathlib.Omega.{arith}
use lib.ListN.{length}
use borrow.Author.Tests.{ne_eqb}
use Rattle.segment.specs.State.{sbase, flags}
use Rattle.segment.specs.Cells.{Cell}
use Rattle.segment.specs.View.{view}
use Rattle.segment.specs.Lent.{Words, Lent}
use Rattle.storage_theorems.proofs.HeapTheorems.{heap-theorems}
use Rattle.acceptance_storage.proofs.Tests.{by-eq}
use Rattle.storage_sheet.specs.Sheet.{sheet_of}
use Rattle.manual.specs.Program.{Program}
use Rattle.manual.specs.OrTrap.{gives, trap}
use Rattle.manual.specs.Effects.{Effect}
use Rattle.manual.specs.Traps.{listed}
use Rattle.effects_theorems.proofs.Tests.{never}
use Rattle.effects.specs.Carried.{outcome_of}
use Rattle.effects.specs.Step.{step_of}
use Rattle.step_theorems.specs.Planned.{planned, header_in}
use Rattle.step_theorems.proofs.Planned.{plan-listed}
use Rattle.fresh_segment.specs.LayOut.{lay_out_refusal, laid_out}
use Rattle.operations.specs.Load.{load_refusal, loaded}
use Rattle.operations.specs.Look.{looked}
use Rattle.operations.specs.Sheet.{sheeted}
use Rattle.operations.specs.Run.{ran as ran_of}
use Rattle.operations.specs.Answers as operations
use Rattle.audit.specs.Calls.{Procedures, procedures_of, Call, lay_out, run, load, look, sheet, Answer, refused, done, ran, trapped, scalar, array, summed, answer_of, run_answer, look_answer, sheet_answer, first_failed, tests, Passes, global_value, LentProcedures, LentCall}
use Rattle.audit.specs.Steps.{StepOutcome, traps_by, finishes, Step, traps, full, does, EffectsDone, in_vain}
use Rattle.audit.specs.Runs.{Runs}
use Rattle.audit.specs.Did.{LaidOut, Ran, Loaded, Tells, Did, is_refused, is_laid_out, has_run, is_loaded, has_told, has_summed, Event}
use Rattle.audit.specs.Replays.{OneByOne}
use Rattle.audit.specs.Lists.{refusal_of, Answers, Kept, LoadInVain, FullExactly, Item, call, replay, Happening, called, replayed, item_of, Happened, calls_in, AllLent}
use Rattle.audit.specs.Demands.{Demand1, Demand2, AllHold, Demand3, Demands}
use Rattle.audit.proofs.Accepts.{accepted-of, passes_of}
use Rattle.audit.proofs.Steps.{due-small, outcome_from, step-done, step-accepted}
use Rattle.audit.proofs.Runs.{step_left, run-answers, vain-traps}
use Rattle.audit.proofs.LayOut.{lay-out-did, lay-out-words}
use Rattle.audit.proofs.Run.{run-did, run-words}
use Rattle.audit.proofs.Look.{look-did}
use Rattle.audit.proofs.Sheet.{sheet-did}
use Rattle.audit.proofs.Load.{load-did, load-words, load_full}
use Rattle.audit.proofs.Replay.{replay-theorems}

-- ---- what is answered that is not refused

told-unrefused : (s : List ℕ) (a : Answer) (c : Cell) → Tells s a c → refusal_of a ≡ 0
told-unrefused s a c h = ⊎_elim (λ k. ap refusal_of k.1) (λ k. ap refusal_of k.1) h

run-unrefused : {p : Program} {budget : ℕ} {s t : List ℕ} {a : Answer} → Runs p budget 0 s a t → refusal_of a ≡ 0
run-unrefused r = ⊎_elim (λ k. ap refusal_of k) (λ k. ap refusal_of k.1) (run-answers r)

-- ---- demand 1

number : {s t : List ℕ} {c : Call} {a : Answer} → Did s c a t → refusal_of a ≡ first_failed (tests s c)
number (is_refused d e) = sym e
number (is_laid_out e h) = sym e
number (has_run e h) = run-unrefused h.steps ∙ sym e
number (is_loaded e h) = sym e
number {s = s} (has_told {g = g} {answer = answer} e h) = told-unrefused s answer (global_value s g) h ∙ sym e
number (has_summed e) = sym e

unchanged : {s t : List ℕ} {c : Call} {a : Answer} → Did s c a t → refusal_of a ≢ 0 → t ≡ s
unchanged (is_refused d e) n = refl
unchanged (is_laid_out e h) n = absurd (n refl)
unchanged (has_run e h) n = absurd (n (run-unrefused h.steps))
unchanged (is_loaded e h) n = absurd (n refl)
unchanged (has_told e h) n = refl
unchanged (has_summed e) n = refl

answers : {s t : List ℕ} {c : Call} {a : Answer} → Did s c a t → refusal_of a ≡ 0 → Answers c a
answers (is_refused d e) z = absurd (d z)
answers (is_laid_out e h) z = refl
answers (has_run e h) z = run-answers h.steps
answers (is_loaded e h) z = refl
answers {s = s} (has_told {g = g} {answer = answer} e h) z = ⊎_elim (λ k. inl (k.0, k.1)) (λ k. inr (k.0, k.1)) h
answers {s = s} (has_summed e) z = (sheet_of s, refl)

-- what a call leaves, by the definitions
abbrev Made : List ℕ → Call → Type 0
Made s c = (a : Answer) × (t : List ℕ) × Did s c a t × Words t

ends : (s : List ℕ) → Words s → (c : Call) → LentCall c → Made s c
ends s words (lay_out p l) lent =
    (answer_of (operations.done_or_refused (lay_out_refusal s p.regular p.alternate l)), laid_out s p.regular p.alternate l, lay-out-did s p l, lay-out-words s p l words)
ends s words (run p budget) lent = (
  run_answer (ran_of s p budget).answer,
  (ran_of s p budget).words,
  run-did s p budget words lent,
  run-words s p budget words lent,
)
ends s words (load p g lengths ravel) lent = (
  answer_of (operations.done_or_refused (load_refusal s p.regular p.alternate g lengths ravel)),
  loaded s p.regular p.alternate g lengths ravel,
  load-did s p g lengths ravel,
  load-words s p g lengths ravel words lent.2,
)
ends s words (look p g) lent = (look_answer (looked s p.regular p.alternate g), s, look-did s p g, words)
ends s words (sheet p) lent = (sheet_answer (sheeted s p.regular p.alternate), s, sheet-did s p, words)

instruction : (s : List ℕ) (p : Program) → Words s → LentProcedures (procedures_of p) → Passes s (procedures_of p)
    → (o : StepOutcome) × (t : List ℕ) × Step p s o t × Passes t (procedures_of p)
instruction s p words bytes k =
    let lent : Lent s p.regular p.alternate = record { words = words; regular_bytes = bytes.0; other_bytes = bytes.1 } in
    let h = accepted-of s (procedures_of p) k in
    let r = step_of p s in
    (outcome_from r.answer, r.words, (step-done s p lent h).0, passes_of r.words (procedures_of p) (step-accepted s p lent h))

abbrev Low : StepOutcome → Type 0
Low (traps_by class n) = class ≡ 2 → n ≡ 4
Low (finishes d) = d ≤ 3

breakpoint-alone : (number : ℕ) → listed 2 number ≡ true → number ≡ 4
unfolding listed
breakpoint-alone number h = by-eq number 4 (λ e. e) (λ d. never (sym h ∙ rw (ne_eqb number 4 d)))

low : {p : Program} {s t : List ℕ} {o : StepOutcome} → Step p s o t → Low o
low {p = p} {s = s} (traps {class = class} {number = n} e) = λ c.
    breakpoint-alone n (rw c at (plan-listed p (length s - sbase s) (view s) class n e))
low (full e v) = λ c. absurd (omega (arith, c))
low {p = p} {s = s} {t = t} (does {es = es} e v k) =
    subst (λ (n : ℕ). n ≤ 3) (sym k.due)
    (due-small (outcome_of es) (flags s) (header_in p.regular p.alternate (view t)) (header_in p.regular p.alternate (view s)))

pub demand-1 : Demand1
demand-1 = record {
  number = number;
  unchanged = unchanged;
  ends = ends;
  answers = answers;
  instruction = instruction;
  trapped = λ e. step_left e;
  after = λ e. low e;
  alone = λ e. low e refl;
}

-- ---- demand 2

trap-told : {s t : List ℕ} {p : Program} {o : StepOutcome} → Step p s o t → (class number : ℕ)
    → planned s p ≡ trap class number → (o ≡ traps_by class number) × (listed class number ≡ true)
trap-told {s = s} {p = p} (traps e) class number q = (cc, plan-listed p (length s - sbase s) (view s) class number q)
trap-told (full e v) class number q = let z : ◌≡◌ {A = ℕ} 0 1 = cc in absurd (omega arith)
trap-told (does e v k) class number q = let z : ◌≡◌ {A = ℕ} 0 1 = cc in absurd (omega arith)

done-told : {s t : List ℕ} {p : Program} {o : StepOutcome} → Step p s o t → (es : List Effect)
    → planned s p ≡ gives es → in_vain s es ≡ false → (d : ℕ) × (o ≡ finishes d) × EffectsDone p s es d t
done-told (traps e) es q v = let z : ◌≡◌ {A = ℕ} 0 1 = cc in absurd (omega arith)
done-told {s = s} (full {es = fs} e w) es q v = let same : fs ≡ es = cc in never (sym w ∙ ap (in_vain s) same ∙ v)
done-told {s = s} {t = t} {p = p} (does {es = fs} {d = d} e w k) es q v = let same : fs ≡ es = cc in (d, refl, subst (λ (l : List Effect). EffectsDone p s l d t) same k)

laid_out_lem : {s t : List ℕ} {p : Procedures} {l : _} {a : Answer} → Did s (lay_out p l) a t → refusal_of a ≡ 0 → LaidOut s p l t
laid_out_lem (is_refused d e) z = absurd (d z)
laid_out_lem (is_laid_out e h) z = h

has-run : {s t : List ℕ} {p : Program} {budget : ℕ} {a : Answer} → Did s (run p budget) a t → refusal_of a ≡ 0 → Ran s p budget a t
has-run (is_refused d e) z = absurd (d z)
has-run (has_run e h) z = h

is-loaded : {s t lengths ravel : List ℕ} {p : Procedures} {g : ℕ} {a : Answer} → Did s (load p g lengths ravel) a t → refusal_of a ≡ 0
    → Loaded s p g lengths ravel t
is-loaded (is_refused d e) z = absurd (d z)
is-loaded (is_loaded e h) z = h

has-told : {s t : List ℕ} {p : Procedures} {g : ℕ} {a : Answer} → Did s (look p g) a t → refusal_of a ≡ 0 → Tells s a (global_value s g) × (t ≡ s)
has-told (is_refused d e) z = absurd (d z)
has-told (has_told e h) z = (h, refl)

has-summed : {s t : List ℕ} {p : Procedures} {a : Answer} → Did s (sheet p) a t → refusal_of a ≡ 0 → (a ≡ summed (sheet_of s)) × (t ≡ s)
has-summed (is_refused d e) z = absurd (d z)
has-summed (has_summed e) z = (refl, refl)

settled : {s t u : List ℕ} {p : Program} {o q : StepOutcome} → Step p s o t → Step p s q u → (o ≡ q) × (view t ≡ view u)
settled (traps e) (traps f) = (cc, cc)
settled (traps e) (full f w) = let z : ◌≡◌ {A = ℕ} 0 1 = cc in absurd (omega arith)
settled (traps e) (does f w l) = let z : ◌≡◌ {A = ℕ} 0 1 = cc in absurd (omega arith)
settled (full e v) (traps f) = let z : ◌≡◌ {A = ℕ} 0 1 = cc in absurd (omega arith)
settled (full e v) (full f w) = (refl, refl)
settled (full e v) (does f w l) = let z : true ≡ false = cc in never z
settled (does e v k) (traps f) = let z : ◌≡◌ {A = ℕ} 0 1 = cc in absurd (omega arith)
settled (does e v k) (full f w) = let z : true ≡ false = cc in never z
settled (does e v k) (does f w l) =
    let seen = k.seen in
    let sees = l.seen in
    let due = k.due in
    let dues = l.due in
    (cc, cc)

pub demand-2 : Demand2
demand-2 = record {
  trap = trap-told;
  full = λ e es q v. (vain-traps e (es, q, v)).0;
  does = done-told;
  settled = settled;
  lay_out = laid_out_lem;
  run = has-run;
  load = is-loaded;
  look = has-told;
  sheet = has-summed;
}

-- ---- demand 3

-- accepted beside some procedure segments
record Good (s : List ℕ) : Type 0 where
  beside : Procedures
  accepted : Passes s beside

kept : {s : List ℕ} → Good s → Kept s
kept {s} g =
    let o = (accepted-of s g.beside g.accepted).owned in
    record { blocks = o.blocks; ring = o.ring; heap = o.heap; tiling = heap-theorems.tiling s o.blocks o.ring o.heap; named = o.named; counts = o.counts }

-- a call that is not refused leaves what is accepted beside its own procedure segments
good : {s t : List ℕ} {c : Call} {a : Answer} → Good s → Did s c a t → Good t
good g (is_refused d e) = g
good g (is_laid_out {p = p} e h) = record { beside = p; accepted = h.accepted }
good g (has_run {p = p} e h) = record { beside = procedures_of p; accepted = h.accepted }
good g (is_loaded {p = p} e h) = record { beside = p; accepted = h.accepted }
good g (has_told e h) = g
good g (has_summed e) = g

full-exactly : {s t : List ℕ} {c : Call} {a : Answer} → Did s c a t → FullExactly s c a t
full-exactly {s = s} {t = t} {c = c} {a = a} h = record {
  run = λ p budget e z. let r = has-run (subst (λ (c : Call). Did s c a t) e h) z in (r.steps, r.full);
  load = λ p g lengths ravel e. let n = number (subst (λ (c : Call). Did s c a t) e h) in loading p g lengths ravel a n;
}
  where
    refusal-24 : (a : Answer) → refusal_of a ≡ 24 → a ≡ refused 24
    refusal-24 (refused n) e = ap refused e
    refusal-24 done e = absurd (omega (arith, e))
    refusal-24 (ran n) e = absurd (omega (arith, e))
    refusal-24 (trapped n) e = absurd (omega (arith, e))
    refusal-24 (scalar w) e = absurd (omega (arith, e))
    refusal-24 (array block) e = absurd (omega (arith, e))
    refusal-24 (summed sums) e = absurd (omega (arith, e))

    loading : (p : Procedures) (g : ℕ) (lengths ravel : List ℕ) (a : Answer) → refusal_of a ≡ first_failed (tests s (load p g lengths ravel))
        → (a ≡ refused 24) ↔ LoadInVain s p g lengths ravel
    loading p g lengths ravel a n =
        let f = load_full s p g lengths ravel in
        (λ e. f.0 (sym n ∙ ap refusal_of e), λ k. refusal-24 a (n ∙ f.1 k))

hold : (s : List ℕ) → Good s → (events : List Event) (t : List ℕ) → OneByOne s events t → AllHold s events
hold s g [] t h = kept g
hold s g (e ∷ events) t h = (kept g, h.0, full-exactly h.0, hold e.after (good g h.0) events t h.1)

-- ---- replays in a list

one-by-one-then : (s : List ℕ) (events : List Event) (t : List ℕ) → OneByOne s events t → (more : List Event) (u : List ℕ) → OneByOne t more u → OneByOne s (events ++ more) u
one-by-one-then s [] t h more u k = subst (λ (s : List ℕ). OneByOne s more u) (sym h) k
one-by-one-then s (e ∷ events) t h more u k = (h.0, one-by-one-then e.after events t h.1 more u k)

-- the calls of a list happened one by one
in-turn : (s : List ℕ) (list : List Happening) → Happened s list → (t : List ℕ) × OneByOne s (calls_in list) t
in-turn s [] h = (s, refl)
in-turn s (called e ∷ list) h = let rest = in-turn e.after list h.1 in (rest.0, (h.0, rest.1))
in-turn s (replayed e ∷ list) h =
    let rest = in-turn e.after list h.1 in
    (rest.0, one-by-one-then s e.calls e.after (replay-theorems.one_by_one h.0) (calls_in list) rest.0 rest.1)

held : (s : List ℕ) (p : Procedures) → Passes s p → (list : List Happening) → Happened s list → AllHold s (calls_in list)
held s p e list h = let turn = in-turn s list h in hold s (record { beside = p; accepted = e }) (calls_in list) turn.0 turn.1

happens : (s : List ℕ) → Words s → (items : List Item) → AllLent items → (list : List Happening) × (map item_of list ≡ items) × Happened s list
happens s words [] lent = ([], refl, tt)
happens s words (call c ∷ items) lent =
    let m = ends s words c lent.0 in
    let rest = happens m.1 m.3 items lent.1 in
    (called (record { call = c; answer = m.0; after = m.1 }) ∷ rest.0, ap (λ (l : List Item). call c ∷ l) rest.1, (m.2, rest.2))
happens s words (replay p file ∷ items) lent =
    let m = replay-theorems.ends s words p lent.0.0 file lent.0.1 in
    let rest = happens m.1 m.5 items lent.1 in (
      replayed (record { program = p; file = file; answer = m.0; counts = m.2; calls = m.3; after = m.1 }) ∷ rest.0,
      ap (λ (l : List Item). replay p file ∷ l) rest.1,
      (m.4, rest.2),
    )

pub demand-3 : Demand3
demand-3 = record { list = held; happens = happens }

pub demands : Demands
demands = record { first = demand-1; second = demand-2; third = demand-3 }
