-- A replay leaves eight counts, and the place that it answers lies in the file.
use Prim.Native.Nat.{ℕ, zero, suc, ◌+◌, ◌≤◌, ◌<◌, ◌^◌}
use native.Mathlib.Omega.{arith}
use mathlib.Core.Path.{◌≡◌, refl, sym, ap, ◌∙◌}
use mathlib.Core.Bool.{Bool, true, false, cond}
use mathlib.Core.List.{List, [], ◌++◌, append-nil}
use lib.ListN.{length, set, drop, drop_of_length-le}
use lib.Dec.{ltb, eqb}
use lib.Seq.{sets, sets-eq}
use borrow.Author.Tests.{ltb-true}
use Rattle.imports.specs.Records as file
use Rattle.imports.specs.Records.{Record, FoundRecord, Records, ends, malformed, entry, continued, record_at, records_up_to, records_from, records_of}
use Rattle.tally.specs.Counts.{none_counted}
use Rattle.tally.proofs.Laws.{counted-length}
use Rattle.manual.specs.Program.{Program}
use Rattle.std.specs.Prelude.{Result, Ok, Err}
use Rattle.trap.specs.declared.Trap.{Trap}
use Rattle.effects.specs.declared.Stepped.{Stepped}
use Rattle.effects.specs.declared.Stepped.TheVariants as stepped
use Rattle.effects.specs.Step.{step_of}
use Rattle.effects.specs.Tally.{tallying, tallied_from}
use Rattle.std.proofs.Common.{Err}
use Rattle.operations.specs.Answers.{Halted, replay_place}
use Rattle.operations.specs.Load.{load_refusal, loaded}
use Rattle.operations.specs.Run.{run_refusal, ran}
use Rattle.operations.specs.Replay.{Replay, replay, tallied, run_halt, replay_from, replayed}

-- ---- counts

tallying-length : (n : ℕ) (answer : Result Stepped Trap) (counts more : List ℕ) (rest : List ℕ → List ℕ) → length counts ≡ n → length more ≡ n
    → ((l : List ℕ) → length l ≡ n → length (rest l) ≡ n) → length (tallying answer counts more rest) ≡ n
tallying-length n (Ok stepped.Finished) counts more rest c m r = r more m
tallying-length n (Ok (stepped.Traced trap)) counts more rest c m r = m
tallying-length n (Err trap) counts more rest c m r = c

tallied-from-length : (n budget : ℕ) (counts : List ℕ) (p : Program) (s : List ℕ) → length counts ≡ n → length (tallied_from budget counts p s) ≡ n
unfolding tallied_from
tallied-from-length n zero counts p s h = h
tallied-from-length n (suc budget) counts p s h =
    tallying-length n (step_of p s).answer counts _ _ h (counted-length _ counts ∙ h)
    (λ more l. tallied-from-length n budget more p (step_of p s).words l)

tallied-if : (n : ℕ) (b : Bool) (after counts : List ℕ) → length after ≡ n → length counts ≡ n → length (cond b after counts) ≡ n
tallied-if n true after counts a c = a
tallied-if n false after counts a c = c

tallied-length : (n : ℕ) (s : List ℕ) (p : Program) (budget : ℕ) (counts : List ℕ) → length counts ≡ n
    → length (tallied s p budget counts) ≡ n
unfolding tallied
tallied-length n s p budget counts h =
    tallied-if n (eqb (run_refusal s p) 0) _ counts (tallied-from-length n budget counts p (set s 3 0) h) h

-- ---- places

-- every record of a file stands below a limit
data Below (limit : ℕ) : Records → Type 0 where
  none : Below limit ends
  bad : {place : ℕ} → place < limit → Below limit (malformed place)
  here : {place : ℕ} {r : Record} {rest : Records} → place < limit → Below limit rest → Below limit (entry place r rest)

module _ (limit : ℕ) where
  continued-below : (place : ℕ) (r : FoundRecord) (rest : ℕ → Records) → place < limit → ((next : ℕ) → Below limit (rest next))
      → Below limit (continued place r rest)
  continued-below place (file.found r next) rest h more = here h (more next)
  continued-below place file.bad rest h more = bad h

  module _ (bytes : List ℕ) (fits : length bytes ≤ limit) where
    below-if : (place : ℕ) (b : Bool) (r : Records) → ltb place (length bytes) ≡ b → (place < limit → Below limit r) → Below limit (cond b r ends)
    below-if place true r e h = h (omega (arith, ltb-true place (length bytes) e))
    below-if place false r e h = none

    up-to-below : (left place : ℕ) → Below limit (records_up_to left bytes place)
    unfolding records_up_to
    up-to-below zero place = none
    up-to-below (suc left) place =
        below-if place _ _ refl (λ h. continued-below place (record_at bytes place) _ h (λ next. up-to-below left next))

-- ---- the replay

record Kept (limit : ℕ) (r : Replay) : Type 0 where
  eight : length r.counts ≡ 8
  inside : replay_place r.answer < limit

module _ (limit : ℕ) (some : 0 < limit) (p : Program) where
  after-record : (place number : ℕ) (b : Bool) (s counts : List ℕ) (rest : Replay) → place < limit → length counts ≡ 8 → Kept limit rest
      → Kept limit (cond b rest (replay (Err (Halted number place)) s counts))
  after-record place number true s counts rest low c k = k
  after-record place number false s counts rest low c k = record { eight = c; inside = low }

  from-kept : (records : Records) (s counts : List ℕ) → Below limit records → length counts ≡ 8 → Kept limit (replay_from p records s counts)
  unfolding replay_from
  from-kept ends s counts none c = record { eight = c; inside = some }
  from-kept (malformed place) s counts (bad low) c = record { eight = c; inside = low }
  from-kept (entry place (file.load g lengths ravel) rest) s counts (here low more) c =
      after-record place (load_refusal s p.regular p.alternate g lengths ravel) (eqb (load_refusal s p.regular p.alternate g lengths ravel) 0) _ counts _ low c
      (from-kept rest (loaded s p.regular p.alternate g lengths ravel) counts more c)
  from-kept (entry place (file.run budget) rest) s counts (here low more) c =
      let after : length (tallied s p budget counts) ≡ 8 = tallied-length 8 s p budget counts c in
      after-record place (run_halt (ran s p budget).answer) (eqb (run_halt (ran s p budget).answer) 0) _ _ _ low after
      (from-kept rest (ran s p budget).words (tallied s p budget counts) more after)

  replayed-kept : (s bytes : List ℕ) → length bytes ≤ limit → Kept limit (replayed s p bytes)
  unfolding replayed records_from
  replayed-kept s bytes fits = from-kept (records_of bytes) s none_counted (up-to-below limit bytes fits _ 0) refl

-- a place in a file of at most 2 to the 32 bytes has 32 bits
pub place_inside : (s : List ℕ) (p : Program) (bytes : List ℕ) → length bytes ≤ 2 ^ 32 → replay_place (replayed s p bytes).answer < 2 ^ 32
place_inside s p bytes fits = (replayed-kept (2 ^ 32) (omega arith) p s bytes fits).inside

eight-counts : (s : List ℕ) (p : Program) (bytes : List ℕ) → length (replayed s p bytes).counts ≡ 8
eight-counts s p bytes = (replayed-kept (suc (length bytes)) (omega arith) p s bytes (omega arith)).eight

-- as many counts as there is room for are all that is left there
pub all_set : (counts l : List ℕ) → length l ≡ length counts → sets l 0 counts ≡ counts
all_set counts l e =
    let none : drop (0 + length counts) l ≡ [] = drop_of_length-le l {i = 0 + length counts} (omega arith) in
    sets-eq counts l 0 (omega arith) ∙ ap (λ (rest : List ℕ). counts ++ rest) none ∙ append-nil counts

pub tally-told : (s : List ℕ) (p : Program) (bytes tally after : List ℕ) → after ≡ sets tally 0 (replayed s p bytes).counts
    → length tally ≡ 8 → after ≡ (replayed s p bytes).counts
tally-told s p bytes tally after e eight =
    e ∙ all_set _ tally (eight ∙ sym (eight-counts s p bytes))
