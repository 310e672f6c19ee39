-- A run does what `Did` says, counts what its steps count, and leaves words of 32 bits.
use Prim.Native.Nat.{ℕ, ◌<◌}
use mathlib.Core.Path.{◌≡◌, sym, ◌∙◌}
use mathlib.Core.Logic.{◌≢◌}
use mathlib.Core.List.{List}
use native.Mathlib.Omega.{arith}
use lib.ListN.{length, set}
use lib.Seq.{get_or-set_same}
use borrow.Author.Tests.{eq-eqb, ne_eqb}
use Rattle.segment.specs.State.{trap_word}
use Rattle.segment.specs.Lent.{Words}
use Rattle.acceptance_storage.proofs.Tests.{by-eq}
use Rattle.acceptance.proofs.Structure.{structure}
use Rattle.manual.specs.Program.{Program}
use Rattle.effects.specs.Run.{run_of}
use Rattle.effects.specs.Tally.{tallied_from}
use Rattle.std.proofs.Common.{Err}
use Rattle.operations.specs.Run as operations
use Rattle.operations.specs.Run.{Ended, ended, run_refusal, ran}
use Rattle.operations.specs.Replay.{tallied}
use Rattle.operations.proofs.Tests.{run-passes}
use Rattle.audit.specs.Calls.{procedures_of, run_answer, run, LentProcedures}
use Rattle.audit.specs.Did.{Did, is_refused, has_run}
use Rattle.audit.specs.Replays.{call_counts}
use Rattle.audit.proofs.Tests.{run-told}
use Rattle.audit.proofs.Accepts.{passes_of}
use Rattle.audit.proofs.Runs.{Ready, run_ran, run-all, run-full}

module _ (s : List ℕ) (p : Program) (budget : ℕ) where
  abbrev number : ℕ
  number = run_refusal s p

  -- with the counts that it leaves
  abbrev RunDid : Ended → (List ℕ → List ℕ) → Type 0
  RunDid e tally = (did : Did s (run p budget) (run_answer e.answer) e.words) × ((counts : List ℕ) → call_counts did counts ≡ tally counts)

  module _ (h : number ≢ 0) where
    run-refused : ran s p budget ≡ ended (Err number) s
    unfolding ran
    run-refused = simp (ne_eqb number 0 h)

    none-tallied : (counts : List ℕ) → tallied s p budget counts ≡ counts
    unfolding tallied
    none-tallied counts = simp (ne_eqb number 0 h)

  module _ (e : number ≡ 0) where
    run-done : ran s p budget ≡ operations.accepted_end (run_of p s budget)
    unfolding ran
    run-done = simp (eq-eqb number 0 e)

    steps-tallied : (counts : List ℕ) → tallied s p budget counts ≡ tallied_from budget counts p (set s 3 0)
    unfolding tallied
    steps-tallied counts = simp (eq-eqb number 0 e)

  module _ (words : Words s) (bytes : LentProcedures (procedures_of p)) where
    start : number ≡ 0 → Ready s p
    start e = record {
      lent = record { words = words; regular_bytes = bytes.0; other_bytes = bytes.1 };
      accepted = structure.sound s p.regular p.alternate (run-passes s p e).accepted;
    }

    has-run : (e : number ≡ 0) → RunDid (operations.accepted_end (run_of p s budget)) (tallied s p budget)
    has-run e =
        let from = run_ran p s (start e) budget in
        let there : 3 < length s = omega (arith, (start e).accepted.shortest) in
        let zero : trap_word (set s 3 0) ≡ 0 = rw get_or-set_same in
        let passes = passes_of (run_of p s budget).words (procedures_of p) from.ready.accepted in (
          has_run (run-told s p budget ∙ e) (record { steps = from.runs; all = run-all from.runs zero; full = run-full from.runs; accepted = passes }),
          λ counts. from.counts counts ∙ sym (steps-tallied e counts),
        )

    -- what a run does, and what it counts
    pub run-counted : RunDid (ran s p budget) (tallied s p budget)
    run-counted =
        by-eq number 0
        (λ e. rw (run-done e) (has-run e))
        (λ d. rw (run-refused d) (is_refused d (run-told s p budget), λ counts. sym (none-tallied d counts)))

    pub run-did : Did s (run p budget) (run_answer (ran s p budget).answer) (ran s p budget).words
    run-did = run-counted.0

    pub run-words : Words (ran s p budget).words
    run-words =
        by-eq number 0
        (λ e. rw (run-done e) (run_ran p s (start e) budget).ready.lent.words)
        (λ d. rw (run-refused d) words)
