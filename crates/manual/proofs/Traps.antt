-- The theorem of specs/Traps: the walk of proofs/Cases, asked only for the traps.
use Prim.Native.Nat.{ℕ, ◌+◌, ◌-◌, ◌^◌, ◌<◌}
use mathlib.Core.Path.{◌≡◌, refl}
use mathlib.Core.Bool.{Bool, true, ◌&&◌, false≢true}
use mathlib.Core.List.{List, [], ◌∷◌}
use mathlib.Core.Logic.{⊎_elim}
use native.Mathlib.Omega.{arith}
use lib.Dec.{ltb, eqb}
use lib.ListN.{length}
use borrow.Author.Tests.{ltb-true, eqb-true}
use Rattle.std.proofs.Common.{Result, Ok, Err}
use Rattle.trap.specs.declared.Trap.{Trap}
use Rattle.segment.specs.Cells.{Cell, undefined}
use Rattle.segment.specs.Machine.{Machine, depth_of_frames}
use Rattle.instruction.specs.declared.Address.{Address}
use Rattle.instruction.specs.declared.Address.TheVariants as A
use Rattle.instruction.specs.declared.Instruction.{Instruction}
use Rattle.instruction.specs.declared.Decoded.{Decoded}
use Rattle.instruction.specs.Decoding.{instruction_at}
use Rattle.manual.specs.Values.{any}
use Rattle.manual.specs.Effects.{look, Plan}
use Rattle.manual.specs.Seen.{Seen, variables_of, local_at, global_at, seen_of}
use Rattle.manual.specs.Program.{under_table}
use Rattle.manual.specs.Instructions.{Running, header_of, code_in, resolve, plan_of, plan_decoded, plan_at}
use Rattle.manual.specs.Traps.{Line, table, among, listed, InTable, Addressed, Trapping, TrapsListed}
use Rattle.manual.proofs.Tests.{both_hold, one_holds}
use Rattle.manual.proofs.Lists.{Listed, in-table}
use Rattle.manual.proofs.Variables.{local-listed, global-listed}
use Rattle.manual.proofs.Decoding.{Decodes, instruction-decodes}
use Rattle.manual.proofs.Cases.{plan-cases}

-- ---- plans

resolve-listed : (seen : Seen) → Addressed seen → (f : Running) (a : Address) → InTable (resolve seen (header_of f) a)
resolve-listed seen h f (A.Local v) = h.local (variables_of (header_of f)) v
resolve-listed seen h f (A.Global g) = h.global g.0

plan-listed : (f : Running) (seen : Seen) → Addressed seen → (i : Instruction) (next : ℕ) → Listed (plan_of f seen i next)
plan-listed f seen h i next =
    plan-cases f seen i next (λ es. Unit {0}) (λ class number. listed class number ≡ true)
    (record {
      unresolved = resolve-listed seen h f;
      stopped = λ class number l. l;
      pushed = λ s r. tt;
      result = λ r m c. tt;
      origin = λ a b e c p r. tt;
      assigned = λ a x v e r c p. tt;
      assigned_no_result = λ a x v e r c p. tt;
      assigned_element = λ rank a x k e c p. tt;
      interchanged = λ e c. tt;
      gone = λ g. tt;
      dropped = λ c g. tt;
      left = λ l. tt;
      left_dropping = λ c l. tt;
      entered = λ arguments alternate number e c. tt;
    })

decoded-listed : (f : Running) (seen : Seen) → Addressed seen → (d : Result Decoded Trap) → Decodes (λ w. Unit {0}) d → Listed (plan_decoded f seen d)
decoded-listed f seen h (Ok d) l = plan-listed f seen h (under_table f.program.table d.instruction) d.next.0
decoded-listed f seen h (Err t) l = l

place-listed : (f : Running) (seen : Seen) → Addressed seen → (place : ℕ) → Listed (plan_at f seen place)
unfolding plan_at
place-listed f seen h place =
    decoded-listed f seen h (instruction_at (code_in f) place) (instruction-decodes (code_in f) (λ w. Unit {0}) (λ c w next e. tt) place)

-- ---- those that the table does not have

trapping : (plan : Plan) → Listed plan → Trapping plan
unfolding listed
trapping plan h = record {
  in_table = in-table plan h;
  storage = λ e. false≢true (in-table plan h 1 2 e);
  step = λ e. false≢true (in-table plan h 2 1 e);
  call_trace = λ e. false≢true (in-table plan h 2 2 e);
  return_trace = λ e. false≢true (in-table plan h 2 3 e);
}

machine-addressed : (words : ℕ) (m : Machine Cell) → Addressed (seen_of words m)
unfolding seen_of
machine-addressed words m = record {
  local = λ variables v.
      in-table ((seen_of words m).local variables v) (local-listed (λ t. look undefined t m) (depth_of_frames m.frames - 2) variables v);
  global = λ g. in-table ((seen_of words m).global g) (global-listed (λ t. look undefined t m) (8 + length m.globals) g);
}

-- ---- eight bits

abbrev all_below : List ℕ → Bool
all_below [] = true
all_below (n ∷ ns) = ltb n (2 ^ 8) && all_below ns

below : (n : ℕ) (ns : List ℕ) → all_below ns ≡ true → any (eqb n) ns ≡ true → n < 2 ^ 8
below n [] h k = absurd (false≢true k)
below n (m ∷ ns) h k =
    let s = both_hold (ltb m (2 ^ 8)) (all_below ns) h in
    ⊎_elim (λ e. omega (arith, eqb-true n m e, ltb-true m (2 ^ 8) s.0)) (λ j. below n ns s.1 j) (one_holds (eqb n m) (any (eqb n) ns) k)

abbrev lines_below : List Line → Bool
lines_below [] = true
lines_below (line ∷ rest) = all_below (line.0 ∷ line.1) && lines_below rest

lines-below : (class number : ℕ) (lines : List Line) → lines_below lines ≡ true → among class number lines ≡ true → (class < 2 ^ 8) × (number < 2 ^ 8)
lines-below class number [] h k = absurd (false≢true k)
lines-below class number (line ∷ rest) h k =
    let s = both_hold (all_below (line.0 ∷ line.1)) (lines_below rest) h in
    let q = both_hold (ltb line.0 (2 ^ 8)) (all_below line.1) s.0 in
    ⊎_elim
    (λ (e : (eqb class line.0 && any (eqb number) line.1) ≡ true).
    let r = both_hold (eqb class line.0) (any (eqb number) line.1) e in
    (omega (arith, eqb-true class line.0 r.0, ltb-true line.0 (2 ^ 8) q.0), below number line.1 q.1 r.1))
    (λ j. lines-below class number rest s.1 j)
    (one_holds (eqb class line.0 && any (eqb number) line.1) (among class number rest) k)

eight-bits : (class number : ℕ) → listed class number ≡ true → (class < 2 ^ 8) × (number < 2 ^ 8)
unfolding listed
eight-bits class number h = lines-below class number table refl h

pub traps-listed : TrapsListed
traps-listed = record {
  of_plan = λ f seen h i next. trapping (plan_of f seen i next) (plan-listed f seen h i next);
  at_place = λ f seen h place. trapping (plan_at f seen place) (place-listed f seen h place);
  local_traps = λ read base variables v. in-table (local_at read base variables v) (local-listed read base variables v);
  global_traps = λ read blockptr g. in-table (global_at read blockptr g) (global-listed read blockptr g);
  machines = machine-addressed;
  class = λ class number h. (eight-bits class number h).0;
  number = λ class number h. (eight-bits class number h).1;
}
