-- The tally: a finished instruction has a family, and the sum of the counts is the number of finished instructions.
use Prim.Native.Nat.{ℕ, zero, suc, ◌+◌, ◌^◌, ◌<◌}
use mathlib.Core.Path.{◌≡◌, refl, sym, ◌∙◌, subst}
use mathlib.Core.Bool.{Bool, true, false, cond}
use mathlib.Core.List.{List, [], ◌∷◌}
use native.Mathlib.Omega.{arith}
use lib.Dec.{ltb}
use lib.ListN.{length, get_or, set, length-set}
use borrow.Author.Tests.{ltb-true, ltb-false}
use Rattle.procedure.specs.Bytes.{byte_at}
use Rattle.procedure.specs.Headers.{code_start}
use Rattle.procedure.specs.Directory.{selected, has_function, function_of}
use Rattle.instruction.specs.declared.Instruction.{Instruction}
use Rattle.std.proofs.Common.{Option, Some, None, Result, Ok, Err}
use Rattle.trap.specs.declared.Trap.{Trap}
use Rattle.trap.specs.Trap.{trap_of}
use Rattle.instruction.specs.declared.Decoded.{Decoded}
use Rattle.instruction.specs.declared.cursor.Cursor.{Cursor}
use Rattle.instruction.specs.declared.family.Family.{Family}
use Rattle.instruction.specs.declared.family.Family.TheVariants as F
use Rattle.instruction.specs.Families.{family_of, order_of}
use Rattle.instruction.specs.Reading.{cursor_at, fetch_byte, with_read}
use Rattle.instruction.specs.Decoding.{done, family_at, instruction_at}
use Rattle.segment.specs.State.{lbase}
use Rattle.segment.specs.Stack.{code_word_at, pctr}
use Rattle.imports.specs.Records as file
use Rattle.imports.specs.Records.{Records}
use Rattle.tally.specs.Counts.{count_limit, none_counted, count_up, counted}
use Rattle.acceptance_storage.proofs.Tests.{both}
use Rattle.acceptance.specs.Frames.{known}
use Rattle.acceptance.specs.Structure.{Accepted}
use Rattle.manual.specs.Program.{Program}
use Rattle.manual.specs.OrTrap.{gives}
use Rattle.manual.specs.Effects.{Effect}
use Rattle.manual.specs.Seen.{Seen}
use Rattle.manual.specs.Instructions.{Running, code_in, plan_decoded, plan_at}
use Rattle.effects.specs.Seen.{seen}
use Rattle.effects.specs.Step.{selector_of, current_function}
use Rattle.effects.specs.Tally.{first_byte}
use Rattle.legality.proofs.Runs.{function-known}
use Rattle.step_theorems.proofs.Current.{current-function, plan-is}
use Rattle.step_theorems.proofs.Again.{sound-of}
use Rattle.std.proofs.Common.{Result}
use Rattle.operations.specs.Answers.{Stop}
use Rattle.audit.specs.Calls.{procedures_of, Answer, Passes}
use Rattle.audit.specs.Steps.{finishes, Step, does}
use Rattle.audit.specs.Runs.{Runs, over, goes_on, traced, stops}
use Rattle.audit.specs.Did.{Did, is_refused, has_run, is_loaded, Event}
use Rattle.audit.specs.Replays.{counts_after, call_counts, record_call, Replays, all_done, is_malformed, continues, halts, finished_of, finished_in, total, AllBelow}
use Rattle.audit.proofs.Accepts.{accepted-of}

-- ---- a finished instruction has a family

abbrev Counts : ℕ → Type 0
Counts first = order_of (family_of first) < 8

module _ (code : List ℕ) (i : Instruction) (next : _) where
  by-family : (c : Cursor) (first : ℕ) (k : Family) → family_at code c first k ≡ done i next → order_of k < 8
  unfolding family_at
  by-family c first F.ShortLocal e = omega arith
  by-family c first F.ShortConst e = omega arith
  by-family c first F.GenScalar e = omega arith
  by-family c first F.MemRef e = omega arith
  by-family c first F.Etc e = omega arith
  by-family c first F.LongLocal e = omega arith
  by-family c first F.LongGlobal e = omega arith
  by-family c first F.Index e = omega arith
  by-family c first F.Unassigned e = let z : ◌≡◌ {A = ℕ} 0 1 = cc in absurd (omega arith)

  decoded-counts : (place : ℕ) → instruction_at code place ≡ done i next → Counts (byte_at code place)
  unfolding instruction_at fetch_byte
  decoded-counts place e = go (ltb place code_start) (ltb place (length code)) e
    where
      go : (before inside : Bool)
          → cond before (Err (trap_of 3 1)) (with_read (cond {A = Option (ℕ × Cursor)} inside (Some (byte_at code place, cursor_at (place + 1))) None) (Err (trap_of 3 1)) (λ first next. family_at code next first (family_of first)))
          ≡ done i next → Counts (byte_at code place)
      go true inside e = let z : ◌≡◌ {A = ℕ} 0 1 = cc in absurd (omega arith)
      go false true e = by-family (cursor_at (place + 1)) (byte_at code place) (family_of (byte_at code place)) e
      go false false e = let z : ◌≡◌ {A = ℕ} 0 1 = cc in absurd (omega arith)

planned-counts : (f : Running) (seen : Seen) (place : ℕ) (es : List Effect) → plan_at f seen place ≡ gives es → Counts (byte_at (code_in f) place)
unfolding plan_at
planned-counts f seen place es e = go (instruction_at (code_in f) place) refl e
  where
    go : (d : Result Decoded Trap) → instruction_at (code_in f) place ≡ d → plan_decoded f seen d ≡ gives es → Counts (byte_at (code_in f) place)
    go (Ok d) q e = decoded-counts (code_in f) d.instruction d.next place q
    go (Err t) q e = let z : ◌≡◌ {A = ℕ} 0 1 = cc in absurd (omega arith)

module _ (s : List ℕ) (p : Program) (h : Accepted s p.regular p.alternate) where
  function-there : has_function (selected (selector_of s) p.regular p.alternate) (current_function s) ≡ true
  unfolding known
  function-there = (both (ltb (code_word_at s (lbase s)) (2 ^ 28)) (has_function (selected (selector_of s) p.regular p.alternate) (current_function s)) (function-known s p.regular p.alternate h.older (lbase s) h.chain)).1

  first-is : first_byte p.regular p.alternate s ≡ byte_at (code_in (current-function s p)) (pctr (code_word_at s (lbase s)))
  unfolding first_byte function_of
  first-is = rw function-there

step_counts : {p : Program} {s t : List ℕ} {d : ℕ} → Passes s (procedures_of p) → Step p s (finishes d) t → Counts (first_byte p.regular p.alternate s)
step_counts {p = p} {s = s} passes (does {es = es} e v k) =
    let h = accepted-of s (procedures_of p) passes in
    let f = current-function s p in
    let plan = sym (plan-is s p h (sound-of h)) ∙ e in
    subst Counts (sym (first-is s p h)) (planned-counts f (seen s) (pctr (code_word_at s (lbase s))) es plan)

-- ---- counts and their sum

total-set : (counts : List ℕ) (i v : ℕ) → i < length counts → total (set counts i v) + get_or counts i 0 ≡ total counts + v
total-set [] i v h = absurd (omega arith)
total-set (n ∷ counts) zero v h = omega arith
total-set (n ∷ counts) (suc i) v h = omega (arith, total-set counts i v (omega (arith, h)))

below_at : (limit : ℕ) (counts : List ℕ) → AllBelow limit counts → (i : ℕ) → i < length counts → get_or counts i 0 < limit
below_at limit [] h i k = absurd (omega arith)
below_at limit (n ∷ counts) h zero k = h.0
below_at limit (n ∷ counts) h (suc i) k = below_at limit counts h.1 i (omega (arith, k))

below-before : (limit : ℕ) (counts : List ℕ) (i v : ℕ) → get_or counts i 0 < limit → AllBelow limit (set counts i v) → AllBelow limit counts
below-before limit [] i v h k = tt
below-before limit (n ∷ counts) zero v h k = (h, k.1)
below-before limit (n ∷ counts) (suc i) v h k = (k.0, below-before limit counts i v h k.1)

-- From some counts to others with so many more, where none has come to the limit.
record More (before : List ℕ) (n : ℕ) (after : List ℕ) : Type 0 where
  long : length after ≡ 8
  below : AllBelow count_limit after → AllBelow count_limit before
  sum : AllBelow count_limit after → total after ≡ total before + n

no_more : (counts : List ℕ) → length counts ≡ 8 → More counts 0 counts
no_more counts h = record { long = h; below = λ k. k; sum = λ k. omega arith }

more-later : {a b c : List ℕ} {n m : ℕ} → More a n b → More b m c → More a (n + m) c
more-later g h = record { long = h.long; below = λ k. g.below (h.below k); sum = λ k. omega (arith, g.sum (h.below k), h.sum k) }

one_more : (counts : List ℕ) → length counts ≡ 8 → (i : ℕ) → i < 8 → More counts 1 (count_up i counts)
unfolding count_up
one_more counts long i h = go (ltb (get_or counts i 0) count_limit) refl
  where
    go : (b : Bool) → ltb (get_or counts i 0) count_limit ≡ b → More counts 1 (cond b (set counts i (get_or counts i 0 + 1)) counts)
    go true e = record {
      long = length-set counts i (get_or counts i 0 + 1) ∙ long;
      below = λ k. below-before count_limit counts i (get_or counts i 0 + 1) (ltb-true _ _ e) k;
      sum = λ k. omega (arith, total-set counts i (get_or counts i 0 + 1) (omega (arith, h, long)));
    }
    go false e =
        let full = ltb-false (get_or counts i 0) count_limit e in
        record { long = long; below = λ k. k; sum = λ k. absurd (omega (arith, full, below_at count_limit counts k i (omega (arith, h, long)))) }

counted-more : (counts : List ℕ) → length counts ≡ 8 → (first : ℕ) → Counts first → More counts 1 (counted first counts)
unfolding counted
counted-more counts long first h = one_more counts long (order_of (family_of first)) h

-- ---- what a run, a record's call and a replay count

record RunCounts (steps : ℕ) (answer : Answer) (before after : List ℕ) : Type 0 where
  finished : ℕ
  told : finished_of answer ≡ steps + finished
  more : More before finished after

run-counts : {p : Program} {budget steps : ℕ} {s t : List ℕ} {answer : Answer} (r : Runs p budget steps s answer t) (counts : List ℕ) → length counts ≡ 8
    → RunCounts steps answer counts (counts_after r counts)
run-counts (over {steps = steps}) counts long = record { finished = 0; told = omega arith; more = no_more counts long }
run-counts {p = p} (goes_on {steps = steps} {s = s} passes step rest) counts long =
    let first = counted-more counts long (first_byte p.regular p.alternate s) (step_counts passes step) in
    let later = run-counts rest (counted (first_byte p.regular p.alternate s) counts) first.long in
    record { finished = 1 + later.finished; told = omega (arith, later.told); more = more-later first later.more }
run-counts {p = p} (traced {steps = steps} {s = s} passes some step) counts long =
    record { finished = 1; told = omega arith; more = counted-more counts long (first_byte p.regular p.alternate s) (step_counts passes step) }
run-counts (stops {steps = steps} passes step) counts long = record { finished = 0; told = omega arith; more = no_more counts long }

call-counts : (p : Program) (r : file.Record) {s t : List ℕ} {a : Answer} (did : Did s (record_call p r) a t) (counts : List ℕ) → length counts ≡ 8
    → More counts (finished_of a) (call_counts did counts)
call-counts p (file.load g lengths ravel) (is_refused some number) counts long = no_more counts long
call-counts p (file.load g lengths ravel) (is_loaded passed did) counts long = no_more counts long
call-counts p (file.run budget) (is_refused some number) counts long = no_more counts long
call-counts p (file.run budget) {a = a} (has_run passed did) counts long =
    let r = run-counts did.steps counts long in
    let told : r.finished ≡ finished_of a = omega (arith, r.told) in
    subst (λ (n : ℕ). More counts n (counts_after did.steps counts)) told r.more

replay-counts : {p : Program} {records : Records} {s t counts after : List ℕ} {answer : Result (Unit {0}) Stop} {events : List Event}
    → Replays p records s counts answer t after events → length counts ≡ 8 → More counts (finished_in events) after
replay-counts (all_done {counts = counts}) long = no_more counts long
replay-counts (is_malformed {counts = counts}) long = no_more counts long
replay-counts {p = p} (continues {r = r} {counts = counts} did z rest) long =
    let first = call-counts p r did counts long in
    more-later first (replay-counts rest first.long)
replay-counts {p = p} (halts {r = r} {counts = counts} did d) long =
    let first = call-counts p r did counts long in
    more-later first (no_more (call_counts did counts) first.long)

pub replay-sum : {p : Program} {records : Records} {s t after : List ℕ} {answer : Result (Unit {0}) Stop} {events : List Event}
    → Replays p records s none_counted answer t after events → AllBelow count_limit after → (length after ≡ 8) × (total after ≡ finished_in events)
replay-sum replays below = let more = replay-counts replays refl in (more.long, omega (arith, more.sum below))
