-- What a replay does: the calls that its records are, one after the other, and what they count. Document 02, paper 1; decisions 83 to 85.
-- The contract of `replay` is this relation. Assumes nothing.
use Rattle.std.specs.Prelude.{ℕ, ◌+◌, ◌<◌, ◌≡◌, ◌≢◌, List, [], ◌∷◌, ◌++◌, map, length, Result, Ok, Err}
use Rattle.segment.specs.Lent.{Words, Bytes}
use Rattle.imports.specs.Records as file
use Rattle.imports.specs.Records.{Record, Records, ends, malformed, entry, records_of}
use Rattle.tally.specs.Counts.{count_limit, none_counted, counted}
use Rattle.manual.specs.Program.{Program}
use Rattle.effects.specs.Tally.{first_byte}
use Rattle.operations.specs.Answers.{Stop, Halted, Malformed}
use Rattle.audit.specs.Calls.{procedures_of, Call, run, load, Answer, refused, done, ran, trapped, scalar, array, summed, LentProcedures}
use Rattle.audit.specs.Runs.{Runs, over, goes_on, traced, stops}
use Rattle.audit.specs.Did.{Did, is_refused, is_laid_out, has_run, is_loaded, has_told, has_summed, Event, event}

-- ---- the tally

-- "A tally lent to the replay goes up by one per finished instruction in its family": along the steps of a run.
abbrev pub counts_after : {p : Program} {budget steps : ℕ} {s t : List ℕ} {answer : Answer} → Runs p budget steps s answer t → List ℕ → List ℕ
counts_after over counts = counts
counts_after {p = p} (goes_on {s = s} accepted step rest) counts = counts_after rest (counted (first_byte p.regular p.alternate s) counts)
counts_after {p = p} (traced {s = s} accepted some step) counts = counted (first_byte p.regular p.alternate s) counts
counts_after (stops accepted step) counts = counts

-- No call but a run counts.
abbrev pub call_counts : {s t : List ℕ} {c : Call} {a : Answer} → Did s c a t → List ℕ → List ℕ
call_counts (is_refused some number) counts = counts
call_counts (is_laid_out passed did) counts = counts
call_counts (has_run passed did) counts = counts_after did.steps counts
call_counts (is_loaded passed did) counts = counts
call_counts (has_told passed did) counts = counts
call_counts (has_summed passed) counts = counts

-- ---- the calls

-- A load takes no table.
abbrev pub record_call : Program → Record → Call
record_call p (file.load g lengths ravel) = load (procedures_of p) g lengths ravel
record_call p (file.run budget) = run p budget

-- The number that halts a replay: "the number returned for it (3 for a trap)"; 0 where it goes on.
abbrev pub halt_of : Answer → ℕ
halt_of (refused number) = number
halt_of done = 0
halt_of (ran steps) = 0
halt_of (trapped steps) = 3
halt_of (scalar w) = 0
halt_of (array block) = 0
halt_of (summed sums) = 0

-- From the words `s` and counts, over the records that are left, to an answer, the words and counts after it, and the calls made.
pub data Replays (p : Program) : Records → List ℕ → List ℕ → Result (Unit {0}) Stop → List ℕ → List ℕ → List Event → Type 0 where
  -- every record was done
  all_done : {s counts : List ℕ} → Replays p ends s counts (Ok tt) s counts []
  -- 25: what is no record changes nothing, and no test is made for it
  is_malformed : {place : ℕ} {s counts : List ℕ} → Replays p (malformed place) s counts (Err (Malformed place)) s counts []
  -- a record's call is done, and the replay goes on from what it left
  continues : {place : ℕ} {r : Record} {rest : Records} {s t u counts after : List ℕ} {a : Answer} {answer : Result (Unit {0}) Stop} {events : List Event}
      → (did : Did s (record_call p r) a t) → halt_of a ≡ 0 → Replays p rest t (call_counts did counts) answer u after events
      → Replays p (entry place r rest) s counts answer u after (event (record_call p r) a t ∷ events)
  -- a trap or a refusal halts it, at the place of the record
  halts : {place : ℕ} {r : Record} {rest : Records} {s t counts : List ℕ} {a : Answer} → (did : Did s (record_call p r) a t) → halt_of a ≢ 0
      → Replays p (entry place r rest) s counts (Err (Halted (halt_of a) place)) t (call_counts did counts) (event (record_call p r) a t ∷ [])

-- What `replay` promises, of 32-bit words and bytes, as its types say in code: "zeroed first".
unfoldable pub PromisedReplay : List ℕ → Program → List ℕ → Result (Unit {0}) Stop → List ℕ → List ℕ → Type 0
PromisedReplay s p bytes answer t counts =
    Words s → LentProcedures (procedures_of p) → Bytes bytes → (events : List Event) × Replays p (records_of bytes) s none_counted answer t counts events

-- ---- what follows of it

-- The calls happened one after the other, from `s` to `t`.
abbrev pub OneByOne : List ℕ → List Event → List ℕ → Type 0
OneByOne s [] t = s ≡ t
OneByOne s (e ∷ events) t = Did s e.call e.answer e.after × OneByOne e.after events t

abbrev pub record_calls : Program → Records → List Call
record_calls p ends = []
record_calls p (malformed place) = []
record_calls p (entry place r rest) = record_call p r ∷ record_calls p rest

-- The number of finished instructions.
abbrev pub finished_of : Answer → ℕ
finished_of (ran steps) = steps
finished_of (trapped steps) = steps
finished_of (refused number) = 0
finished_of done = 0
finished_of (scalar w) = 0
finished_of (array block) = 0
finished_of (summed sums) = 0

abbrev pub finished_in : List Event → ℕ
finished_in [] = 0
finished_in (e ∷ events) = finished_of e.answer + finished_in events

abbrev pub total : List ℕ → ℕ
total [] = 0
total (n ∷ ns) = n + total ns

abbrev pub AllBelow : ℕ → List ℕ → Type 0
AllBelow limit [] = Unit {0}
AllBelow limit (n ∷ ns) = (n < limit) × AllBelow limit ns

pub record ReplayTheorems : Type 0 where
  -- "Replay gives what the same loads and runs give one by one"
  pub one_by_one : {p : Program} {records : Records} {s t counts after : List ℕ} {answer : Result (Unit {0}) Stop} {events : List Event}
      → Replays p records s counts answer t after events → OneByOne s events t
  -- they are the records' calls, in order, up to the one that halts
  pub in_order : {p : Program} {records : Records} {s t counts after : List ℕ} {answer : Result (Unit {0}) Stop} {events : List Event}
      → Replays p records s counts answer t after events → (later : List Call) × (record_calls p records ≡ map (λ (e : Event). e.call) events ++ later)
  -- "0 says that every record was done"
  pub all : {p : Program} {records : Records} {s t counts after : List ℕ} {events : List Event}
      → Replays p records s counts (Ok tt) t after events → record_calls p records ≡ map (λ (e : Event). e.call) events
  -- the tally's sum is the number of finished instructions where no count is at its limit
  pub sum : {p : Program} {records : Records} {s t after : List ℕ} {answer : Result (Unit {0}) Stop} {events : List Event}
      → Replays p records s none_counted answer t after events → AllBelow count_limit after → (length after ≡ 8) × (total after ≡ finished_in events)
  -- and any file may be replayed
  pub ends : (s : List ℕ) → Words s → (p : Program) → LentProcedures (procedures_of p) → (bytes : List ℕ) → Bytes bytes
      → (answer : Result (Unit {0}) Stop) × (t : List ℕ) × (after : List ℕ) × (events : List Event)
      × Replays p (records_of bytes) s none_counted answer t after events × Words t
