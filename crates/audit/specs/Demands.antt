-- The three demands of document 01 over `Did` and `Step`, a field for each clause, in the demands' order. Assumes nothing.
use Rattle.std.specs.Prelude.{ℕ, ◌≤◌, ◌≡◌, true, false, ◌≢◌, List, [], ◌∷◌, map, set}
use Rattle.segment.specs.State as state
use Rattle.segment.specs.View.{view}
use Rattle.segment.specs.Lent.{Words}
use Rattle.storage_sheet.specs.Sheet.{sheet_of}
use Rattle.manual.specs.Program.{Program}
use Rattle.manual.specs.OrTrap.{gives, trap}
use Rattle.manual.specs.Effects.{Effect}
use Rattle.manual.specs.Traps.{listed}
use Rattle.fresh_segment.specs.LayOut.{Layout}
use Rattle.step_theorems.specs.Planned.{planned}
use Rattle.audit.specs.Calls.{Procedures, procedures_of, Call, lay_out, run, load, look, sheet, Answer, summed, first_failed, tests, Passes, global_value, LentProcedures, LentCall}
use Rattle.audit.specs.Steps.{StepOutcome, traps_by, finishes, Step, EffectsDone, in_vain}
use Rattle.audit.specs.Did.{LaidOut, Ran, Loaded, Tells, Did, Event}
use Rattle.audit.specs.Lists.{refusal_of, Answers, Kept, FullExactly, Item, Happening, item_of, Happened, calls_in, AllLent}

pub record Demand1 : Type 0 where
  -- "A bad length, segment or number is refused with its number, changing nothing."
  pub number : {s t : List ℕ} {c : Call} {a : Answer} → Did s c a t → refusal_of a ≡ first_failed (tests s c)
  pub unchanged : {s t : List ℕ} {c : Call} {a : Answer} → Did s c a t → refusal_of a ≢ 0 → t ≡ s
  -- "Otherwise each operation ends,"
  pub ends : (s : List ℕ) → Words s → (c : Call) → LentCall c → (a : Answer) × (t : List ℕ) × Did s c a t × Words t
  pub answers : {s t : List ℕ} {c : Call} {a : Answer} → Did s c a t → refusal_of a ≡ 0 → Answers c a
  -- "and each instruction finishes, or traps by class and number"
  pub instruction : (s : List ℕ) (p : Program) → Words s → LentProcedures (procedures_of p) → Passes s (procedures_of p)
      → (o : StepOutcome) × (t : List ℕ) × Step p s o t × Passes t (procedures_of p)
  -- "with everything but the trap word unchanged (step and trace traps alone come after a finished instruction)."
  pub trapped : {s t : List ℕ} {p : Program} {class number : ℕ} → Step p s (traps_by class number) t → t ≡ set s 3 (state.trap_of class number)
  pub after : {s t : List ℕ} {p : Program} {d : ℕ} → Step p s (finishes d) t → d ≤ 3
  pub alone : {s t : List ℕ} {p : Program} {number : ℕ} → Step p s (traps_by 2 number) t → number ≡ 4

pub record Demand2 : Type 0 where
  -- "Every step does what the manual, as fixed in document 01, gives: values, frames, next PCTR, trap."
  pub trap : {s t : List ℕ} {p : Program} {o : StepOutcome} → Step p s o t → (class number : ℕ)
      → planned s p ≡ trap class number → (o ≡ traps_by class number) × (listed class number ≡ true)
  pub full : {s t : List ℕ} {p : Program} {o : StepOutcome} → Step p s o t → (es : List Effect)
      → planned s p ≡ gives es → in_vain s es ≡ true → o ≡ traps_by 1 2
  -- "A value that the instruction does not take, write or drop stays the same though it shares storage": `EffectsDone.others`.
  pub does : {s t : List ℕ} {p : Program} {o : StepOutcome} → Step p s o t → (es : List Effect)
      → planned s p ≡ gives es → in_vain s es ≡ false → (d : ℕ) × (o ≡ finishes d) × EffectsDone p s es d t
  -- and nothing else: the words before it settle the outcome and all that is seen after it
  pub settled : {s t u : List ℕ} {p : Program} {o q : StepOutcome} → Step p s o t → Step p s q u → (o ≡ q) × (view t ≡ view u)
  -- and each call
  pub lay_out : {s t : List ℕ} {p : Procedures} {l : Layout} {a : Answer} → Did s (lay_out p l) a t → refusal_of a ≡ 0 → LaidOut s p l t
  pub run : {s t : List ℕ} {p : Program} {budget : ℕ} {a : Answer} → Did s (run p budget) a t → refusal_of a ≡ 0 → Ran s p budget a t
  pub load : {s t lengths ravel : List ℕ} {p : Procedures} {g : ℕ} {a : Answer} → Did s (load p g lengths ravel) a t → refusal_of a ≡ 0
      → Loaded s p g lengths ravel t
  pub look : {s t : List ℕ} {p : Procedures} {g : ℕ} {a : Answer} → Did s (look p g) a t → refusal_of a ≡ 0 → Tells s a (global_value s g) × (t ≡ s)
  pub sheet : {s t : List ℕ} {p : Procedures} {a : Answer} → Did s (sheet p) a t → refusal_of a ≡ 0 → (a ≡ summed (sheet_of s)) × (t ≡ s)

-- "1 and 2 hold for each, and afterwards blocks are disjoint and cover storage, no two free neighbours, the ring holds each free
-- block once, every count is the number of cells pointing to the array; full is reported exactly when no free block is long enough."
abbrev pub AllHold : List ℕ → List Event → Type 0
AllHold s [] = Kept s
AllHold s (e ∷ events) =
    Kept s × Did s e.call e.answer e.after × FullExactly s e.call e.answer e.after × AllHold e.after events

pub record Demand3 : Type 0 where
  -- "Over any list of lay outs, runs, loads and looks on an accepted segment": one claim about the list. A sheet is a call too, and a
  -- replay is the calls that it makes.
  pub list : (s : List ℕ) (p : Procedures) → Passes s p → (list : List Happening) → Happened s list → AllHold s (calls_in list)
  -- and any list may happen
  pub happens : (s : List ℕ) → Words s → (items : List Item) → AllLent items → (list : List Happening) × (map item_of list ≡ items) × Happened s list

pub record Demands : Type 0 where
  pub first : Demand1
  pub second : Demand2
  pub third : Demand3
