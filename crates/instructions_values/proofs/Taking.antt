-- The values of an instruction's operands: what the code finds of them, and what a plan comes to by that.
use Prim.Native.Nat.{ℕ, ◌<◌, ◌≤◌}
use native.Mathlib.Omega.{arith}
use mathlib.Core.Path.{◌≡◌, refl, sym, ap, subst, ◌∙◌}
use mathlib.Core.List.{List}
use lib.Dec.{ltb}
use borrow.Author.Tests.{lt-ltb, le-ltb}
use Rattle.std.specs.Prelude.{Option, Some, None, Result, Ok, Err, IsErrAnd, ok_or}
use Rattle.trap.specs.Trap.{trap_of}
use Rattle.trap.specs.declared.Trap.{Trap}
use Rattle.manual.specs.OrTrap.{OrTrap, trap, and_then, stop_if}
use Rattle.manual.specs.Effects.{Plan}
use Rattle.manual.specs.Values.{Value}
use Rattle.manual.specs.Scalars.{value_of, replace_by}
use Rattle.effects.specs.Sources.{operand_at}
use Rattle.effects.specs.Seen.{temporaries, seen}
use Rattle.effects.specs.declared.Outcome.{Outcome}
use Rattle.effects.specs.Carried.{did, carry}
use Rattle.operands.specs.declared.reading.Value.{Value as Operand}
use Rattle.operands.specs.Operands.{operand_of, held, value_seen}
use Rattle.operands.proofs.Seen.{operand-seen}
use Rattle.operands.proofs.ValuesSeen.{value-seen, array_whole}
use Rattle.instructions_values.specs.Parts.{Readable, from_first, from_both, First, FirstFound, Both, BothFound}

module _ (s : List ℕ) where
  pub readable-found : (w : ℕ) (v : Operand) → operand_of s w ≡ Some v → Readable s v
  readable-found w v e = record { array = λ block same. array_whole s w block (e ∙ ap Some same) }

  operand-found : (i : ℕ) → i < temporaries s → (o : Option Operand) → operand_of s (operand_at s i) ≡ o → value_of ((seen s).operand i) ≡ value_seen s o
  operand-found i there o e = rw (operand-seen s i there, value-seen s (operand_at s i), e)

  too_few : (n : ℕ) (rest : Plan) → temporaries s < n → stop_if (ltb (seen s).count n) 3 4 rest ≡ trap 3 4
  unfolding seen
  too_few n rest few = simp (lt-ltb _ _ few)

  all_there : (n : ℕ) (rest : Plan) → n ≤ temporaries s → stop_if (ltb (seen s).count n) 3 4 rest ≡ rest
  unfolding seen
  all_there n rest all = simp (le-ltb _ _ all)

-- ---- the first of n

-- A value that the code looks for, or (3,5).
abbrev pub sought : Option Operand → Result Operand Trap
sought o = ok_or o (trap_of 3 5)

module _ (s : List ℕ) (n : ℕ) where
  pub first-missing : temporaries s < n → FirstFound s n (Err (trap_of 3 4))
  first-missing few = λ next. too_few s n (and_then (value_of ((seen s).operand 0)) next) few

  pub first-sought : 1 ≤ n → n ≤ temporaries s → FirstFound s n (sought (operand_of s (operand_at s 0)))
  first-sought some all = by-operand (operand_of s (operand_at s 0)) refl
    where
      goes-on : (o : Option Operand) → operand_of s (operand_at s 0) ≡ o → (next : Value → Plan) → from_first (seen s) n next ≡ and_then (value_seen s o) next
      goes-on o e next =
          all_there s n (and_then (value_of ((seen s).operand 0)) next) all
          ∙ ap (λ (r : OrTrap Value). and_then r next) (operand-found s 0 (omega arith) o e)

      by-operand : (o : Option Operand) → operand_of s (operand_at s 0) ≡ o → FirstFound s n (sought o)
      by-operand None e = goes-on None e
      by-operand (Some v) e = record { all = all; stands = e; readable = readable-found s (operand_at s 0) v e; goes = goes-on (Some v) e }

-- ---- both of two

module _ {s : List ℕ} {a : Operand} (f : First s 2 a) where
  goes-on : (o : Option Operand) → operand_of s (operand_at s 1) ≡ o → (next : Value → Value → Plan) → from_both (seen s) next ≡ and_then (value_seen s o) (next (held s a))
  goes-on o second next =
      f.goes (λ a. and_then (value_of ((seen s).operand 1)) (next a))
      ∙ ap (λ (r : OrTrap Value). and_then r (next (held s a))) (operand-found s 1 f.all o second)

  pub both-ended : (o : Option Operand) → operand_of s (operand_at s 1) ≡ o → {t : Trap} → sought o ≡ Err t → BothFound s (Err t)
  both-ended None second {t} e = subst (λ (t : Trap). BothFound s (Err t)) (cc) (goes-on None second)
  both-ended (Some b) second e = let z : ◌≡◌ {A = ℕ} 0 1 = cc in absurd (omega arith)

  pub both_found : (o : Option Operand) → operand_of s (operand_at s 1) ≡ o → {b : Operand} → sought o ≡ Ok b → Both s a b
  both_found None second e = let z : ◌≡◌ {A = ℕ} 0 1 = cc in absurd (omega arith)
  both_found (Some b) second e = subst (Both s a) (cc) (record {
    stand = record { first = f.stands; second = second };
    readable = (f.readable, readable-found s (operand_at s 1) b second);
    goes = goes-on (Some b) second;
  })

-- ---- a trap that is passed on

-- A plan that comes to a trap is carried out by a `Result` with that trap.
pub passed-on : {s : List ℕ} {plan : Plan} {t : Trap} (r : Result Outcome Trap) → IsErrAnd r (λ y. y ≡ t) → plan ≡ trap t.class t.number → did r s ≡ carry s plan
passed-on (Ok done) h e = absurd h
passed-on {s} (Err y) h e = ap (λ (t : Trap). did (Err t) s) h ∙ ap (carry s) (sym e)

-- A result's trap is the instruction's.
pub refused-by : (next n : ℕ) {class number : ℕ} {result : OrTrap Value} → trap class number ≡ result → replace_by next n result ≡ trap class number
refused-by next n e = ap (replace_by next n) (sym e)
