-- A list of calls and replays and the segments between them, what array storage must be before and after each call, and when full
-- is reported. Document 01, demand 3 and "Agreement"; document 02, paper 1: "what a replay gives is what the same loads and runs give". Assumes nothing.
use Rattle.std.specs.Prelude.{ℕ, ◌^◌, ◌<◌, ◌≤◌, ◌≡◌, true, false, ◌↔◌, ◌≢◌, ◌⊎◌, List, [], ◌∷◌, ◌++◌, length, set, Result}
use Rattle.descriptor.specs.Fields.{array_word}
use Rattle.segment.specs.State.{blockptr}
use Rattle.segment.specs.Blocks.{count_at, need}
use Rattle.storage.specs.Heap.{Block, count, Heap}
use Rattle.storage.specs.Owned.{ArrayIn}
use Rattle.acceptance_storage.specs.Room.{long_enough}
use Rattle.segment.specs.View.{owners}
use Rattle.segment.specs.Lent.{Bytes}
use Rattle.storage_theorems.specs.Tiling.{Tiling}
use Rattle.imports.specs.Records.{records_of}
use Rattle.tally.specs.Counts.{none_counted}
use Rattle.storage_sheet.specs.declared.Sheet.{Sheet}
use Rattle.manual.specs.Program.{Program}
use Rattle.operations.specs.Answers.{Stop}
use Rattle.operations.specs.Load.{is_global, is_value}
use Rattle.audit.specs.Calls.{Procedures, procedures_of, Call, lay_out, run, load, look, sheet, Answer, refused, done, ran, trapped, scalar, array, summed, Passes, LentProcedures, LentCall}
use Rattle.audit.specs.Runs.{Runs, SomeRequestInVain, ReportsFull}
use Rattle.audit.specs.Did.{Did, Event}
use Rattle.audit.specs.Replays.{Replays}

-- The number that refuses a call; 0 where none does.
abbrev pub refusal_of : Answer → ℕ
refusal_of (refused number) = number
refusal_of done = 0
refusal_of (ran steps) = 0
refusal_of (trapped steps) = 0
refusal_of (scalar w) = 0
refusal_of (array block) = 0
refusal_of (summed sums) = 0

-- What a call answers that is not refused: 0; 2 with the number asked, or 3 with no more; what a look sees; the
-- sums of a sheet.
abbrev pub Answers : Call → Answer → Type 0
Answers (lay_out p l) answer = answer ≡ done
Answers (run p budget) answer = (answer ≡ ran budget) ⊎ ((n : ℕ) × (answer ≡ trapped n) × (n ≤ budget))
Answers (load p g lengths ravel) answer = answer ≡ done
Answers (look p g) answer = ((w : ℕ) × (answer ≡ scalar w)) ⊎ ((block : ℕ) × (answer ≡ array block))
Answers (sheet p) answer = (sums : Sheet) × (answer ≡ summed sums)

-- ---- array storage

pub record Kept (s : List ℕ) : Type 0 where
  pub blocks : List Block
  pub ring : List ℕ
  -- no two free neighbours, the ring one round through the dummy and every free block, LAST the reverse, ROVER on it
  pub heap : Heap s blocks ring
  -- no two blocks share a word, and every word of array storage lies in a block
  pub tiling : Tiling s blocks
  -- a cell that holds an array's word points to one of these arrays
  pub named : (x : ℕ) → x < 2 ^ 16 → 0 < count (array_word x) (owners s) → (size : ℕ) × ArrayIn (blockptr s) blocks x size
  -- every array's count is the number of cells pointing to it, and not zero
  pub counts : (x size : ℕ) → ArrayIn (blockptr s) blocks x size → (count_at s x ≡ count (array_word x) (owners s)) × (0 < count (array_word x) (owners s))

-- ---- storage full

-- A load comes to a request, and no free block is long enough.
pub record LoadInVain (s : List ℕ) (p : Procedures) (g : ℕ) (lengths ravel : List ℕ) : Type 0 where
  pub accepted : Passes s p
  pub global : is_global s g ≡ true
  pub value : is_value lengths ravel ≡ true
  -- a scalar asks for no block
  pub asks : length lengths ≢ 0
  pub none : long_enough s (need lengths ravel) ≡ false

-- Full is (1,2) of a run, 24 of a load.
pub record FullExactly (s : List ℕ) (c : Call) (a : Answer) (t : List ℕ) : Type 0 where
  pub run : (p : Program) (budget : ℕ) → c ≡ run p budget → refusal_of a ≡ 0
      → (steps : Runs p budget 0 (set s 3 0) a t) × (ReportsFull a t ↔ SomeRequestInVain steps)
  pub load : (p : Procedures) (g : ℕ) (lengths ravel : List ℕ) → c ≡ load p g lengths ravel → (a ≡ refused 24) ↔ LoadInVain s p g lengths ravel

-- ---- the list

-- What may stand in a list: a call, or the replay of a file.
pub data Item : Type 0 where
  call : Call → Item
  replay : Program → List ℕ → Item

-- A replay, what it answered, its counts, the calls that it made, and the segment after it.
pub record ReplayEvent : Type 0 where
  pub program : Program
  pub file : List ℕ
  pub answer : Result (Unit {0}) Stop
  pub counts : List ℕ
  pub calls : List Event
  pub after : List ℕ

pub data Happening : Type 0 where
  called : Event → Happening
  replayed : ReplayEvent → Happening

abbrev pub item_of : Happening → Item
item_of (called e) = call e.call
item_of (replayed e) = replay e.program e.file

abbrev pub Happened : List ℕ → List Happening → Type 0
Happened s [] = Unit {0}
Happened s (called e ∷ list) = Did s e.call e.answer e.after × Happened e.after list
Happened s (replayed e ∷ list) =
    Replays e.program (records_of e.file) s none_counted e.answer e.after e.counts e.calls × Happened e.after list

-- The calls of a list, in order: a replay is those that it makes.
abbrev pub calls_in : List Happening → List Event
calls_in [] = []
calls_in (called e ∷ list) = e ∷ calls_in list
calls_in (replayed e ∷ list) = e.calls ++ calls_in list

-- What each brings.
abbrev pub LentItem : Item → Type 0
LentItem (call c) = LentCall c
LentItem (replay p bytes) = LentProcedures (procedures_of p) × Bytes bytes

abbrev pub AllLent : List Item → Type 0
AllLent [] = Unit {0}
AllLent (i ∷ items) = LentItem i × AllLent items
