-- A run's answer and words are its definition's, a replay's with its tally, and a sheet's counts; an array's parts are short.
use Prim.Native.Nat.{ℕ, zero, suc, ◌+◌, ◌-◌, ◌≤◌, ◌<◌, ◌^◌}
use native.Mathlib.Omega.{arith}
use mathlib.Core.Path.{◌≡◌, refl, ap, ◌∙◌}
use mathlib.Core.Bool.{Bool, true, false, cond}
use mathlib.Core.List.{List, [], ◌∷◌}
use lib.ListN.{length}
use lib.Dec.{leb}
use lib.Seq.{sets}
use Rattle.segment.specs.Blocks.{part, size_at, rank_at}
use Rattle.segment.specs.Parts.{within, shape_part, elements_part}
use Rattle.storage_sheet.specs.declared.Sheet.{Sheet}
use Rattle.manual.specs.Program.{Program}
use Rattle.std.proofs.Common.{Result, Ok}
use Rattle.effects.specs.declared.Ran.{Ran}
use Rattle.operations.specs.Answers.{Stop, status_of}
use Rattle.operations.specs.Run.{Ended, ended}
use Rattle.operations.specs.Replay.{replayed}
use Rattle.operations.proofs.Replays.{all_set, tally-told}
use Rattle.crms_export.specs.Numbers.{run_number, replay_number, sheet_counts}

pub run-told : (number : ℕ) (answer : Result Ran ℕ) (s : List ℕ) (e : Ended) → number ≡ run_number answer → ended answer s ≡ e
    → (number ≡ run_number e.answer) × (s ≡ e.words)
run-told number answer s e same told = (same ∙ ap (λ (e : Ended). run_number e.answer) told, ap (λ (e : Ended). e.words) told)

pub replay-told : (s : List ℕ) (p : Program) (file tally : List ℕ) {number : ℕ} {answer : Result (Unit {0}) Stop} {t after : List ℕ} → number ≡ replay_number answer
    → (answer ≡ (replayed s p file).answer) × ((t ≡ (replayed s p file).words) × (after ≡ sets tally 0 (replayed s p file).counts)) → length tally ≡ 8
    → (number ≡ replay_number (replayed s p file).answer) × ((t ≡ (replayed s p file).words) × (after ≡ (replayed s p file).counts))
replay-told s p file tally same told eight = (same ∙ ap replay_number told.0, (told.1.0, tally-told s p file tally _ told.1.1 eight))

pub part_length : (n : ℕ) (s : List ℕ) (a : ℕ) → length (part s a n) ≡ n
part_length zero s a = refl
part_length (suc n) s a = ap suc (part_length n s (a + 1))

kept : (b : Bool) (l : List ℕ) → length (cond b l []) ≤ length l
kept true l = omega arith
kept false l = omega arith

within-short : (s : List ℕ) (start count : ℕ) → length (within s start count) ≤ count
unfolding within
within-short s start count =
    omega (arith, kept (leb (start + count) (length s)) (part s start count), part_length count s start)

-- A rank has four bits, and SIZE sixteen.
pub shape-short : (s : List ℕ) (a : ℕ) → length (shape_part s a) < 2 ^ 4
unfolding shape_part
shape-short s a = omega (arith, within-short s (a + 2) (rank_at s a))

pub elements-short : (s : List ℕ) (a : ℕ) → length (elements_part s a) < 2 ^ 16
unfolding elements_part
elements-short s a = omega (arith, within-short s (a + 2 + rank_at s a) (size_at s a - (rank_at s a + 2)))
