-- Replays: the definition of a replay does what `Replays` says, and what follows of that.
use Prim.Native.Nat.{ℕ}
use mathlib.Core.Path.{◌≡◌, refl, sym, ◌∙◌, ap, subst}
use mathlib.Core.Logic.{◌≢◌}
use mathlib.Core.List.{List, [], ◌∷◌, ◌++◌, map}
use borrow.Author.Tests.{eq-eqb, ne_eqb}
use Rattle.segment.specs.Lent.{Words}
use Rattle.imports.specs.Records as file
use Rattle.imports.specs.Records.{Records, ends, malformed, entry, records_of}
use Rattle.imports.proofs.Bounds.{AllOfWords, all-of-words}
use Rattle.tally.specs.Counts.{none_counted}
use Rattle.acceptance_storage.proofs.Tests.{by-eq}
use Rattle.manual.specs.Program.{Program}
use Rattle.std.proofs.Common.{Result, Ok, Err}
use Rattle.effects.specs.declared.Ran.{Ran}
use Rattle.effects.specs.declared.Ran.TheVariants as R
use Rattle.operations.specs.Answers.{Stop, Halted}
use Rattle.operations.specs.Answers as operations
use Rattle.operations.specs.Run.{ran as ran_of}
use Rattle.operations.specs.Load.{load_refusal, loaded}
use Rattle.operations.specs.Replay.{Replay, replay, run_halt, after_record, tallied, replay_from, replayed}
use Rattle.audit.specs.Calls.{Procedures, procedures_of, Call, load, Answer, answer_of, run_answer, LentProcedures}
use Rattle.audit.specs.Did.{Did, is_refused, is_loaded, Event, event}
use Rattle.audit.specs.Replays.{call_counts, record_call, halt_of, Replays, all_done, is_malformed, continues, halts, PromisedReplay, OneByOne, record_calls, ReplayTheorems}
use Rattle.audit.proofs.Run.{run-counted, run-words}
use Rattle.audit.proofs.Load.{load-did, load-words}
use Rattle.audit.proofs.Tally.{replay-sum}

-- ---- a record's call

load-counts : {p : Procedures} {s t lengths ravel : List ℕ} {g : ℕ} {a : Answer} (did : Did s (load p g lengths ravel) a t) (counts : List ℕ) → call_counts did counts ≡ counts
load-counts (is_refused some number) counts = refl
load-counts (is_loaded passed did) counts = refl

-- the number that halts a replay, by the definitions and by the answers
load-halt : (number : ℕ) → halt_of (answer_of (operations.done_or_refused number)) ≡ number
load-halt number = by-eq number 0 (λ e. rw (eq-eqb number 0 e) (sym e)) (λ d. rw (ne_eqb number 0 d))

run-halt : (answer : Result Ran ℕ) → halt_of (run_answer answer) ≡ run_halt answer
run-halt (Ok (R.Done steps)) = refl
run-halt (Ok (R.Trapped steps)) = refl
run-halt (Err number) = refl

-- ---- the replay

module _ (p : Program) (bytes : LentProcedures (procedures_of p)) where
  abbrev regular : List ℕ
  regular = p.regular

  abbrev alternate : List ℕ
  alternate = p.alternate

  abbrev Made : Records → List ℕ → List ℕ → Replay → Type 0
  Made records s counts r = (events : List Event) × Replays p records s counts r.answer r.words r.counts events × Words r.words

  -- by the number that the first record's call returned
  module _ (place : ℕ) (r : file.Record) (rest : Records) (s counts t after : List ℕ) (a : Answer) (did : Did s (record_call p r) a t) (words : Words t)
      (same : call_counts did counts ≡ after) (number : ℕ) (halt : halt_of a ≡ number) (more : Replay) (made : Made rest t after more) where
    goes_on : number ≡ 0 → Made (entry place r rest) s counts more
    goes_on z =
        let replays = subst (λ (c : List ℕ). Replays p rest t c more.answer more.words more.counts made.0) (sym same) made.1 in
        (event (record_call p r) a t ∷ made.0, continues did (halt ∙ z) replays, made.2)

    stops : number ≢ 0 → Made (entry place r rest) s counts (replay (Err (Halted number place)) t after)
    stops d = (event (record_call p r) a t ∷ [], rw (sym same, sym halt) (halts did (λ z. d (sym halt ∙ z))), words)

    record-made : Made (entry place r rest) s counts (after_record place number t after more)
    record-made = by-eq number 0 (λ z. rw (eq-eqb number 0 z) (goes_on z)) (λ d. rw (ne_eqb number 0 d) (stops d))

  replay-made : (records : Records) → AllOfWords records → (s : List ℕ) → Words s → (counts : List ℕ) → Made records s counts (replay_from p records s counts)
  unfolding replay_from
  replay-made ends h s words counts = ([], all_done, words)
  replay-made (malformed place) h s words counts = ([], is_malformed, words)
  replay-made (entry place (file.load g lengths ravel) rest) h s words counts =
      let number = load_refusal s regular alternate g lengths ravel in
      let t = loaded s regular alternate g lengths ravel in
      let left : Words t = load-words s (procedures_of p) g lengths ravel words h.0.1 in
      let did = load-did s (procedures_of p) g lengths ravel in
      record-made place (file.load g lengths ravel) rest s counts t counts (answer_of (operations.done_or_refused number)) did left
      (load-counts did counts) number (load-halt number) (replay_from p rest t counts) (replay-made rest h.1 t left counts)
  replay-made (entry place (file.run budget) rest) h s words counts =
      let e = ran_of s p budget in
      let after = tallied s p budget counts in
      let left : Words e.words = run-words s p budget words bytes in
      let did = run-counted s p budget words bytes in
      record-made place (file.run budget) rest s counts e.words after (run_answer e.answer) did.0 left
      (did.1 counts) (run_halt e.answer) (run-halt e.answer) (replay_from p rest e.words after) (replay-made rest h.1 e.words left after)

  replay-did : (s : List ℕ) → Words s → (bytes : List ℕ) → Made (records_of bytes) s none_counted (replayed s p bytes)
  unfolding replayed
  replay-did s words bytes = replay-made (records_of bytes) (all-of-words bytes) s words none_counted

-- ---- what `replay` promises

pub promised-replay : (s : List ℕ) (p : Program) (bytes : List ℕ) (answer : Result (Unit {0}) Stop) (t counts : List ℕ) → replay answer t counts ≡ replayed s p bytes
    → PromisedReplay s p bytes answer t counts
unfolding PromisedReplay
promised-replay s p bytes answer t counts e words lent file =
    let made = subst (Made p lent (records_of bytes) s none_counted) (sym e) (replay-did p lent s words bytes) in
    (made.0, made.1)

-- ---- what follows

one_by_one : {p : Program} {records : Records} {s t counts after : List ℕ} {answer : Result (Unit {0}) Stop} {events : List Event}
    → Replays p records s counts answer t after events → OneByOne s events t
one_by_one all_done = refl
one_by_one is_malformed = refl
one_by_one (continues did z rest) = (did, one_by_one rest)
one_by_one (halts did d) = (did, refl)

abbrev calls_made : List Event → List Call
calls_made events = map (λ (e : Event). e.call) events

in_order : {p : Program} {records : Records} {s t counts after : List ℕ} {answer : Result (Unit {0}) Stop} {events : List Event}
    → Replays p records s counts answer t after events → (later : List Call) × (record_calls p records ≡ calls_made events ++ later)
in_order all_done = ([], refl)
in_order is_malformed = ([], refl)
in_order {p = p} (continues {r = r} did z rest) = let more = in_order rest in (more.0, ap (λ (calls : List Call). record_call p r ∷ calls) more.1)
in_order {p = p} (halts {rest = rest} did d) = (record_calls p rest, refl)

all_made : {p : Program} {records : Records} {s t counts after : List ℕ} {events : List Event}
    → Replays p records s counts (Ok tt) t after events → record_calls p records ≡ calls_made events
all_made all_done = refl
all_made {p = p} (continues {r = r} did z rest) = ap (λ (calls : List Call). record_call p r ∷ calls) (all_made rest)

pub replay-theorems : ReplayTheorems
replay-theorems = record {
  one_by_one = one_by_one;
  in_order = in_order;
  all = all_made;
  sum = replay-sum;
  ends = λ s words p lent bytes file.
      let r = replayed s p bytes in
      let made = replay-did p lent s words bytes in
      (r.answer, r.words, r.counts, made.0, made.1, made.2);
}
