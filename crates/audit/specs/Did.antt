-- What a call does: the words before it, the call, its answer, the words after it. Demands 1 and 2 of document 01 for each of the
-- four operations, and document 02, paper 3, for the sheet; every public operation's contract is this relation. Assumes nothing.
use Rattle.std.specs.Prelude.{ℕ, ◌≡◌, ◌↔◌, ◌≢◌, ◌⊎◌, List, [], ◌∷◌, eqb, length, set}
use Rattle.descriptor.specs.declared.Target.{Target}
use Rattle.descriptor.specs.declared.Target.TheVariants.{Global}
use Rattle.descriptor.specs.Kinds.{segment}
use Rattle.segment.specs.State.{sbase, flags, trap_word, blockptr}
use Rattle.segment.specs.Parts.{shape_part, elements_part}
use Rattle.segment.specs.Cells.{Cell, undefined, value}
use Rattle.segment.specs.View.{view}
use Rattle.segment.specs.Lent.{Words}
use Rattle.storage_sheet.specs.Sheet.{sheet_of}
use Rattle.manual.specs.Control.{frame_word}
use Rattle.manual.specs.Program.{Program}
use Rattle.manual.specs.Effects as manual
use Rattle.fresh_segment.specs.LayOut.{Layout, locals_of}
use Rattle.fresh_segment.specs.FreshWords.{FreshWords}
use Rattle.audit.specs.Calls.{Procedures, procedures_of, Call, lay_out, run, load, look, sheet, Answer, refused, done, ran, scalar, array, summed, first_failed, tests, Passes, global_value, LentCall}
use Rattle.audit.specs.Runs.{Runs, SomeRequestInVain, ReportsFull}

-- The fresh segment: every word of it is said.
pub record LaidOut (s : List ℕ) (p : Procedures) (l : Layout) (t : List ℕ) : Type 0 where
  pub words : FreshWords (length s) (locals_of p.regular p.alternate l) (frame_word (eqb l.selector 1) l.function) l t
  pub accepted : Passes t p

-- "A run sets word 3 to zero first"; then its steps.
pub record Ran (s : List ℕ) (p : Program) (budget : ℕ) (answer : Answer) (t : List ℕ) : Type 0 where
  pub steps : Runs p budget 0 (set s 3 0) answer t
  pub all : (n : ℕ) → answer ≡ ran n → (n ≡ budget) × (trap_word t ≡ 0)
  -- (1,2) is reported exactly where an instruction comes to a request for which no free block is long enough
  pub full : ReportsFull answer t ↔ SomeRequestInVain steps
  pub accepted : Passes t (procedures_of p)

-- The global has the value, and every other variable the one it had, though it shares storage.
pub record Loaded (s : List ℕ) (p : Procedures) (g : ℕ) (lengths ravel : List ℕ) (t : List ℕ) : Type 0 where
  pub seen : view t ≡ manual.put (Global (segment g)) (value lengths ravel) (view s)
  pub others : (u : Target) → u ≢ Global (segment g) → manual.look undefined u (view t) ≡ manual.look undefined u (view s)
  pub length : length t ≡ length s
  pub sbase : sbase t ≡ sbase s
  pub blockptr : blockptr t ≡ blockptr s
  pub flags : flags t ≡ flags s
  pub trap_word : trap_word t ≡ trap_word s
  pub accepted : Passes t p

-- What an answer tells of a cell: a scalar's word, or the parts of the lent segment that are its shape and ravel.
abbrev pub Tells : List ℕ → Answer → Cell → Type 0
Tells s answer c =
    ((w : ℕ) × (answer ≡ scalar w) × (c ≡ value [] (w ∷ [])))
    ⊎ ((block : ℕ) × (answer ≡ array block) × (c ≡ value (shape_part s block) (elements_part s block)))

pub data Did (s : List ℕ) : Call → Answer → List ℕ → Type 0 where
  -- by the first test of the table that fails, and no word changes
  is_refused : {c : Call} {number : ℕ} → number ≢ 0 → first_failed (tests s c) ≡ number → Did s c (refused number) s
  is_laid_out : {p : Procedures} {l : Layout} {t : List ℕ} → first_failed (tests s (lay_out p l)) ≡ 0 → LaidOut s p l t → Did s (lay_out p l) done t
  has_run : {p : Program} {budget : ℕ} {answer : Answer} {t : List ℕ} → first_failed (tests s (run p budget)) ≡ 0 → Ran s p budget answer t
      → Did s (run p budget) answer t
  is_loaded : {p : Procedures} {g : ℕ} {lengths ravel t : List ℕ} → first_failed (tests s (load p g lengths ravel)) ≡ 0
      → Loaded s p g lengths ravel t → Did s (load p g lengths ravel) done t
  has_told : {p : Procedures} {g : ℕ} {answer : Answer} → first_failed (tests s (look p g)) ≡ 0 → Tells s answer (global_value s g) → Did s (look p g) answer s
  has_summed : {p : Procedures} → first_failed (tests s (sheet p)) ≡ 0 → Did s (sheet p) (summed (sheet_of s)) s

-- What a public operation promises, of 32-bit words and bytes, as its types say in code.
unfoldable pub Promised : List ℕ → Call → Answer → List ℕ → Type 0
Promised s c a t = Words s → LentCall c → Did s c a t

-- ---- one of several

-- A call, what it answered, and the segment between it and the next.
pub record Event : Type 0 where
  pub call : Call
  pub answer : Answer
  pub after : List ℕ

abbrev pub event : Call → Answer → List ℕ → Event
event c a t = record { call = c; answer = a; after = t }
