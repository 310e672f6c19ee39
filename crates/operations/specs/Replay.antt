-- Replay: the loads and runs of a file of imports, one after the other. Document 02, paper 1: "Replay gives what the same loads and
-- runs give one by one, and halts at the first trap or refusal with the number returned for it (3 for a trap); 0 says that every
-- record was done"; 25 for what is no record, "the earlier records stand"; the tally "is zeroed first". Decision 83. Assumes
-- nothing.
use Rattle.std.specs.Prelude.{ℕ, cond, List, eqb, set, Result, Ok, Err}
use Rattle.imports.specs.Records as file
use Rattle.imports.specs.Records.{Records, ends, malformed, entry, records_of}
use Rattle.tally.specs.Counts.{none_counted}
use Rattle.manual.specs.Program.{Program}
use Rattle.effects.specs.Tally.{tallied_from}
use Rattle.effects.specs.declared.Ran.{Ran}
use Rattle.effects.specs.declared.Ran.TheVariants as R
use Rattle.operations.specs.Answers.{Stop, Halted, Malformed}
use Rattle.operations.specs.Run.{run_refusal, ran}
use Rattle.operations.specs.Load.{load_refusal, loaded}

-- ---- a run and its counts

-- "A run sets word 3 to zero first"; a refused one counts nothing.
unfoldable pub tallied : List ℕ → Program → ℕ → List ℕ → List ℕ
tallied s p budget counts = cond (eqb (run_refusal s p) 0) (tallied_from budget counts p (set s 3 0)) counts

-- ---- the replay

-- What a replay answers, the segment after it, and the eight counts.
pub record Replay : Type 0 where
  pub answer : Result (Unit {0}) Stop
  pub words : List ℕ
  pub counts : List ℕ

abbrev pub replay : Result (Unit {0}) Stop → List ℕ → List ℕ → Replay
replay answer s counts = record { answer = answer; words = s; counts = counts }

-- "the number returned for it (3 for a trap)"; 0 where the run was done to its end.
abbrev pub run_halt : Result Ran ℕ → ℕ
run_halt (Ok (R.Done steps)) = 0
run_halt (Ok (R.Trapped steps)) = 3
run_halt (Err number) = number

-- A record that returned a number halts the replay; else it goes on.
abbrev pub after_record : ℕ → ℕ → List ℕ → List ℕ → Replay → Replay
after_record place number s counts rest = cond (eqb number 0) rest (replay (Err (Halted number place)) s counts)

unfoldable pub replay_from : Program → Records → List ℕ → List ℕ → Replay
replay_from p ends s counts = replay (Ok tt) s counts
replay_from p (malformed place) s counts = replay (Err (Malformed place)) s counts
replay_from p (entry place (file.load g lengths ravel) rest) s counts =
    let t = loaded s p.regular p.alternate g lengths ravel in
    let more = replay_from p rest t counts in
    after_record place (load_refusal s p.regular p.alternate g lengths ravel) t counts more
replay_from p (entry place (file.run budget) rest) s counts =
    let e = ran s p budget in
    let after = tallied s p budget counts in
    let more = replay_from p rest e.words after in
    after_record place (run_halt e.answer) e.words after more

unfoldable pub replayed : List ℕ → Program → List ℕ → Replay
replayed s p bytes = replay_from p (records_of bytes) s none_counted
