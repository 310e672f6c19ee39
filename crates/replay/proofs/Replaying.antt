-- A replay from a place of the file on: by the record that stands there, and by what it returned.
use Prim.Native.Nat.{ℕ, ◌<◌, ◌≤◌}
use mathlib.Core.Path.{◌≡◌, sym, ap, ◌∙◌}
use mathlib.Core.Logic.{◌≢◌}
use mathlib.Core.List.{List}
use lib.ListN.{length, take}
use borrow.Author.Tests.{ne_eqb}
use Rattle.imports.specs.Records.{load, run, FoundRecord, found, bad, record_at, records_from}
use Rattle.std.proofs.Common.{Option, Some, None}
use Rattle.imports.specs.declared.parse.Record.{Record}
use Rattle.imports.specs.declared.parse.Record.TheVariants as P
use Rattle.imports.specs.Parsing.{parsed}
use Rattle.imports.proofs.Files as reading
use Rattle.acceptance.specs.Refusal.{refusal}
use Rattle.manual.specs.Program.{Program}
use Rattle.audit.specs.Calls.{procedures}
use Rattle.audit.proofs.Load.{load-accepts}
use Rattle.std.proofs.Common.{Ok, Err}
use Rattle.operations.specs.declared.Halt.{Halt}
use Rattle.operations.specs.Answers.{Halted, Malformed, stop_of}
use Rattle.operations.specs.Load.{load_refusal, loaded}
use Rattle.operations.specs.Run.{ran}
use Rattle.operations.specs.Replay.{Replay, replay, run_halt, tallied, after_record, replay_from}

-- ---- what was read

module _ {told : Option Record} {found_Here : FoundRecord} (lengths ravel : List ℕ) (is : parsed told lengths ravel ≡ found_Here) where
  pub parsed-malformed : told ≡ None → bad ≡ found_Here
  parsed-malformed known = rw known at is

  pub parsed-run : (budget next : ℕ) → told ≡ Some (P.Run budget next) → found (run budget) next ≡ found_Here
  parsed-run budget next known = rw known at is

  pub parsed-load : (global rank count next : ℕ) → told ≡ Some (P.Load global rank count next) → found (load global (take rank lengths) (take count ravel)) next ≡ found_Here
  parsed-load global rank count next known = rw known at is

-- ---- what is done

module _ (p : Program) (file : List ℕ) where
  -- the rest of the file
  abbrev pub From : ℕ → List ℕ → List ℕ → Replay
  From place s counts = replay_from p (records_from file place) s counts

  -- A record at `place` returned `halt` and left the words `t` and the counts `after`; the next stands at `next`.
  pub record Returned (place : ℕ) (s counts : List ℕ) (next halt : ℕ) (t after : List ℕ) : Type 0 where
    whole : after_record place halt t after (From next t after) ≡ From place s counts

  module _ (place : ℕ) (s counts : List ℕ) where
    pub file-ends : length file ≤ place → replay (Ok tt) s counts ≡ From place s counts
    unfolding replay_from
    file-ends none = rw (reading.no_more file place none)

    module _ (more : place < length file) where
      pub no_record : bad ≡ record_at file place → replay (Err (Malformed place)) s counts ≡ From place s counts
      unfolding replay_from
      no_record is = rw (reading.no_record file place more (sym is))

      -- what the record returned, and what it left
      module _ (next : ℕ) {halt : ℕ} {t after : List ℕ} where
        pub run-done : (budget : ℕ) → found (run budget) next ≡ record_at file place → halt ≡ run_halt (ran s p budget).answer
            → t ≡ (ran s p budget).words → after ≡ tallied s p budget counts → Returned place s counts next halt t after
        unfolding replay_from
        run-done budget is h w c = record { whole = rw (reading.one-record file place more (run budget) next (sym is), h, w, c) }

        pub load-done : (g : ℕ) (lengths ravel : List ℕ) → found (load g lengths ravel) next ≡ record_at file place → halt ≡ load_refusal s p.regular p.alternate g lengths ravel
            → t ≡ loaded s p.regular p.alternate g lengths ravel → after ≡ counts → Returned place s counts next halt t after
        unfolding replay_from
        load-done g lengths ravel is h w c = record { whole = rw (reading.one-record file place more (load g lengths ravel) next (sym is), h, w, c) }

  -- a number halts it, and with 0 it goes on
  module _ {place next halt : ℕ} {s counts t after : List ℕ} (returned : Returned place s counts next halt t after) where
    pub goes_on : halt ≡ 0 → From next t after ≡ From place s counts
    goes_on zero = rw zero at returned.whole

    pub halts : (by : Halt) → (halt ≢ 0) × (stop_of by ≡ Halted halt place) → replay (Err (stop_of by)) t after ≡ From place s counts
    halts by told = rw told.1 (rw (ne_eqb halt 0 told.0) at returned.whole)

-- ---- after a load

-- a load leaves what passes tests 10–18
pub load-passes : (s regular alternate : List ℕ) (g : ℕ) (lengths ravel : List ℕ) {t : List ℕ} → load_refusal s regular alternate g lengths ravel ≡ 0
    → t ≡ loaded s regular alternate g lengths ravel → 0 ≡ refusal t regular alternate
load-passes s regular alternate g lengths ravel zero left =
    sym (ap (λ (t : List ℕ). refusal t regular alternate) left ∙ load-accepts s (procedures regular alternate) g lengths ravel zero)
