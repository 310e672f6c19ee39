-- The table of run: what is answered, and the segment after it, where the segment is refused, and where it is not.
use Prim.Native.Nat.{ℕ, ◌≤◌}
use mathlib.Core.Path.{◌≡◌, sym, ap, subst}
use mathlib.Core.List.{List}
use lib.ListN.{length, set}
use borrow.Author.Tests.{ne_eqb}
use Rattle.operator_theorems.proofs.Theorem.{sixteen}
use Rattle.acceptance.proofs.Structure.{table-sound}
use Rattle.manual.specs.Program.{Program}
use Rattle.effects.specs.declared.Ran.{Ran}
use Rattle.effects.specs.Run as machine
use Rattle.effects.specs.Tally.{tallied_from}
use Rattle.std.proofs.Common.{Result, Ok, Err}
use Rattle.operations.specs.declared.Refusal.{Refusal}
use Rattle.operations.specs.Answers.{number_of}
use Rattle.operations.proofs.Answers.{nonzero}
use Rattle.operations.specs.Run.{Ended, ended, accepted_end, run_refusal, ran}
use Rattle.operations.specs.Replay.{tallied}
use Rattle.operations.proofs.Tests.{Passed, run-passes}
use Rattle.audit.specs.Calls as call
use Rattle.audit.specs.Did.{Did, Promised}
use Rattle.audit.proofs.Run.{run-did}

-- ---- what a run that is not refused has passed

module _ (s : List ℕ) (p : Program) (passed : run_refusal s p ≡ 0) where
  tests : Passed s p
  tests = run-passes s p passed

  pub short-enough : length s ≤ 16384
  short-enough = (table-sound s p.regular p.alternate tests.accepted).longest

  pub sixteen-places : length p.table ≡ 16
  sixteen-places = (sixteen p.table tests.table).0

-- ---- the table

module _ (s : List ℕ) (p : Program) (budget : ℕ) (counts : List ℕ) where
  -- what run answers and leaves, the promise, and the counts
  abbrev pub Answers : Result Ran ℕ → List ℕ → List ℕ → Type 0
  Answers answer after more =
      (ended answer after ≡ ran s p budget)
      × (Promised s (call.run p budget) (call.run_answer answer) after
      × (more ≡ tallied s p budget counts))

  promised : (answer : Result Ran ℕ) (after more : List ℕ) → ended answer after ≡ ran s p budget → more ≡ tallied s p budget counts → Answers answer after more
  unfolding Promised
  promised answer after more e up = (
    e,
    (
      (λ words lent.
          subst (λ (x : Ended). Did s (call.run p budget) (call.run_answer x.answer) x.words) (sym e)
          (run-did s p budget words lent)),
      up,
    ),
  )

  pub unaccepted : (refusal : Refusal) → number_of refusal ≡ run_refusal s p → Answers (Err (number_of refusal)) s counts
  unfolding ran tallied
  unaccepted refusal same =
      let refused = ne_eqb (number_of refusal) 0 (nonzero refusal) in
      promised (Err (number_of refusal)) s counts (simp (← same, refused)) (simp (← same, refused))

  module _ (passed : 0 ≡ run_refusal s p) (after more : List ℕ) where
    has-run : (r : Ran) → machine.run_result r after ≡ machine.steps_from budget 0 p (set s 3 0) → ended (Ok r) after ≡ ran s p budget
    unfolding ran machine.run_of
    has-run r same = simp (← passed) (ap accepted_end same)

    has-counted : more ≡ tallied_from budget counts p (set s 3 0) → more ≡ tallied s p budget counts
    unfolding tallied
    has-counted same = simp (← passed) same

    -- from the words with word 3 zero
    pub has_ended : (start : List ℕ) → start ≡ set s 3 0 → (told r : Ran) → told ≡ r → machine.run_result told after ≡ machine.steps_from budget 0 p start
        → more ≡ tallied_from budget counts p start → Answers (Ok r) after more
    has_ended start zero told r known same up = promised (Ok r) after more (has-run r (rw (zero, known) at same)) (has-counted (rw zero at up))
