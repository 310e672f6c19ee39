-- The effects of every plan have words of 32 bits.
use Prim.Native.Nat.{ℕ, ◌%◌, ◌^◌, ◌<◌}
use mathlib.Core.Bool.{Bool, true, false, cond}
use mathlib.Core.List.{List}
use native.Mathlib.Omega.{arith}
use lib.Dec.{eqb}
use Rattle.descriptor.proofs.Truth.{bit_below}
use Rattle.instruction.specs.declared.Instruction.{Instruction}
use Rattle.std.proofs.Common.{Result, Ok, Err}
use Rattle.trap.specs.declared.Trap.{Trap}
use Rattle.instruction.specs.declared.Decoded.{Decoded}
use Rattle.manual.specs.Values.{Value, rank, first}
use Rattle.manual.specs.Effects.{Source, word, made}
use Rattle.manual.specs.Seen.{Seen, variables_of}
use Rattle.manual.specs.Loads.{is_undefined}
use Rattle.manual.specs.Scalars.{result_source}
use Rattle.manual.specs.Control.{frame_word}
use Rattle.manual.specs.Program.{under_table}
use Rattle.manual.specs.Instructions.{Running, code_in, header_of, plan_of, plan_decoded}
use Rattle.manual.specs.Cases.{Pushed, of_load, of_reference, of_test_defined, of_undefined, of_get_origin, of_short_constant, of_constant_scalar, of_constant_vector}
use Rattle.manual.proofs.Decoding.{Reads, reads-under}
use Rattle.manual.proofs.Cases.{plan-cases}
use Rattle.scalar_theorems.specs.Validity.{Valid}
use Rattle.segment.specs.Lent.{Words, Bytes}
use Rattle.plan_theorems.proofs.Given.{AnyTrap, Given}
use Rattle.plan_theorems.proofs.Lists.{all_map, words-all}
use Rattle.plan_theorems.proofs.Values.{ValueFits}
use Rattle.plan_theorems.proofs.Cells.{word-valid}
use Rattle.plan_theorems.proofs.Sees.{Sees}
use Rattle.plan_theorems.proofs.Pushed.{valid-truth, valid-short}
use Rattle.plan_theorems.proofs.Results.{result_fits}
use Rattle.plan_theorems.specs.Bounded.{SmallSource, AllSmall}
use Rattle.plan_theorems.proofs.BoundedDecoding.{SmallDecoded, words-from}

result-small : (a : Value) → ValueFits a → SmallSource (result_source a)
result-small a h = go (eqb (rank a) 0) (words-all a.ravel (all_map Valid (λ w. w < 2 ^ 32) (λ w v. v.word) a.ravel h.scalars))
  where
    go : (b : Bool) → Words a.ravel → SmallSource (cond b (word (first a.ravel)) (made a.shape a.ravel))
    go true k = k 0
    go false k = k

frame_small : (alternate : Bool) (number : ℕ) → number < 2 ^ 11 → frame_word alternate number < 2 ^ 32
frame_small true number h = omega arith
frame_small false number h = omega arith

module _ {s : List ℕ} {v : Seen} (f : Running) (h : Sees s (variables_of (header_of f)) v) (bytes : Bytes (code_in f)) where
  source-small : {i : Instruction} {source : Source} → Reads (λ w. w < 2 ^ 32) i → Pushed f v i source → SmallSource source
  source-small k (of_load r e) = tt
  source-small k (of_reference r) = tt
  source-small k (of_test_defined {x = x} r) = (valid-truth (is_undefined x.held)).word
  source-small k of_undefined = tt
  source-small k of_get_origin = omega (arith, h.origin)
  source-small k (of_short_constant {negative} {magnitude}) = (valid-short negative magnitude).word
  source-small k (of_constant_scalar e) = k
  source-small k (of_constant_vector {count} {first} e) =
      words-from (count % 2 ^ 8) (code_in f) bytes (first.0 % 2 ^ 16)

  plan-small : (i : Instruction) → Reads (λ w. w < 2 ^ 32) i → (next : ℕ) → Given AllSmall (plan_of f v i next)
  plan-small i k next =
      plan-cases f v i next AllSmall AnyTrap
      (record {
        unresolved = λ a class number e. tt;
        stopped = λ class number e. tt;
        pushed = λ p r. (source-small k p, (tt, tt));
        result = λ {v = r} p m c. (result-small r (result_fits h p), (tt, tt));
        origin = λ a b e c p t. (bit_below b, (omega (arith, h.origin), (tt, tt)));
        assigned = λ a x w e r c p. (tt, (tt, tt));
        assigned_no_result = λ a x w e r c p. (tt, (tt, (tt, tt)));
        assigned_element = λ rank a x j e c p. ((word-valid (v.operand (rank % 2 ^ 4)) (h.operand (rank % 2 ^ 4))).word, (tt, tt));
        interchanged = λ e c. (tt, (tt, tt));
        gone = λ p. (tt, tt);
        dropped = λ c p. (tt, (tt, tt));
        left = λ l. (tt, tt);
        left_dropping = λ c l. (tt, (tt, tt));
        entered = λ arguments other number e c. (tt, (frame_small other (number % 2 ^ 11) (omega arith), tt));
      })

  pub planned-small : (d : Result Decoded Trap) → SmallDecoded d → Given AllSmall (plan_decoded f v d)
  planned-small (Ok d) k =
      plan-small (under_table f.program.table d.instruction) (reads-under (λ w. w < 2 ^ 32) f.program.table d.instruction k) d.next.0
  planned-small (Err t) k = tt
