-- What holds of a table that passes test 26.
use Prim.Native.Nat.{ℕ, ◌<◌, ◌≤◌}
use mathlib.Core.Path.{◌≡◌, refl, sym, ◌∙◌, ap}
use mathlib.Core.Bool.{true}
use mathlib.Core.List.{List, []}
use native.Mathlib.Omega.{arith}
use lib.Dec.{eqb}
use lib.ListN.{length, get_or}
use borrow.Author.Tests.{lt-ltb, eqb-true}
use Rattle.operator.specs.declared.Monadic.TheVariants as M
use Rattle.operator.specs.declared.Dyadic.TheVariants as D
use Rattle.operator.specs.declared.Operator.{Operator}
use Rattle.operator.specs.declared.Operator.TheVariants as O
use Rattle.operator.specs.Table.{operators, operator_of, operator_number}
use Rattle.std.proofs.Common.{Option, Some, None, unwrap_or}
use Rattle.operator.specs.Lent.{manual_table, each_once, table_test, operator_under, named}
use Rattle.descriptor.proofs.Truth.{both, by_le}
use Rattle.descriptor.proofs.Computed.{everywhere}
use Rattle.operator.proofs.Lookup.{past-table}
use Rattle.operator.proofs.Numbers.{number_in, numbered, means-none, means-below}
use Rattle.operator_theorems.specs.Theorems.{OneFor, LentTables}
use Rattle.operator_theorems.proofs.Permuted.{all-places, all-stand, found, same_place}

-- an operator stands at its number, which is below sixteen
record Placed (op : Operator) : Type 0 where
  stands : operator_of (operator_number op) ≡ Some op
  below : operator_number op < 16

placed : (op : Operator) → Placed op
unfolding operator_of
placed (O.Monadic M.Identity) = record { stands = refl; below = omega arith }
placed (O.Monadic M.Negative) = record { stands = refl; below = omega arith }
placed (O.Monadic M.Floor) = record { stands = refl; below = omega arith }
placed (O.Monadic M.Ceiling) = record { stands = refl; below = omega arith }
placed (O.Monadic M.Magnitude) = record { stands = refl; below = omega arith }
placed (O.Monadic M.Not) = record { stands = refl; below = omega arith }
placed (O.Monadic M.TestNumber) = record { stands = refl; below = omega arith }
placed (O.Monadic M.Convert) = record { stands = refl; below = omega arith }
placed (O.Dyadic D.Sum) = record { stands = refl; below = omega arith }
placed (O.Dyadic D.Difference) = record { stands = refl; below = omega arith }
placed (O.Dyadic D.Product) = record { stands = refl; below = omega arith }
placed (O.Dyadic D.Quotient) = record { stands = refl; below = omega arith }
placed (O.Dyadic D.LogicalProduct) = record { stands = refl; below = omega arith }
placed (O.Dyadic D.LogicalSum) = record { stands = refl; below = omega arith }
placed (O.Dyadic D.Less) = record { stands = refl; below = omega arith }
placed (O.Dyadic D.Equal) = record { stands = refl; below = omega arith }

past : (n : ℕ) → 16 ≤ n → operator_of n ≡ None
unfolding operator_of
past n h = past-table n 16 h None operators refl

number_of : (n : ℕ) (op : Operator) → operator_of n ≡ Some op → n ≡ operator_number op
number_of n op e =
    by_le 16 n (λ h. let none : 16 ≡ operator_number op = ap number_in (sym (past n h) ∙ e) in absurd (omega (arith, none, (placed op).below)))
    (λ low. sym (numbered n low) ∙ ap number_in e)

-- a place has an operator
defined : (n : ℕ) → n < 16 → (op : Operator) (sub : Option Operator) → operator_of n ≡ sub → sub ≡ Some (unwrap_or sub op)
defined n h op (Some o) e = refl
defined n h op None e = let z : 16 ≡ n = ap number_in (sym e) ∙ numbered n h in absurd (omega (arith, z, h))

-- ---- under any table

module _ (table : List ℕ) where
  under-below : (n : ℕ) → n < 16 → operator_under table n ≡ operator_of (get_or table n 0)
  unfolding operator_under
  under-below n h = rw (lt-ltb n 16 h)

  -- ---- under one that passes

  module _ (passes : table_test table ≡ true) where
    pub sixteen : (length table ≡ 16) × (each_once [] table ≡ true)
    unfolding table_test
    sixteen = let h = both (eqb (length table) 16) (each_once [] table) passes in (eqb-true (length table) 16 h.0, h.1)

    one-for : (op : Operator) → OneFor table op
    one-for op =
        let k = placed op in
        let at = found table (operator_number op) (all-stand [] table sixteen.1 (sym sixteen.0) (operator_number op) k.below) in
        let low : at.0 < 16 = omega (arith, at.1, sixteen.0) in
        record { number = at.0; means = under-below at.0 low ∙ ap operator_of at.2 ∙ k.stands; only = λ other means. only_at at.0 low at.2 other means }
      where
        only_at : (n : ℕ) → n < 16 → get_or table n 0 ≡ operator_number op → (other : ℕ) → operator_under table other ≡ Some op → other ≡ n
        only_at n low there other means =
            let small = means-below table other means in
            same_place [] table sixteen.1 other n (omega (arith, small, sixteen.0)) (omega (arith, low, sixteen.0))
            (number_of (get_or table other 0) op (sym (under-below other small) ∙ means) ∙ sym there)

    named-means : (op : Operator) → operator_under table (operator_number op) ≡ Some (named table op)
    unfolding named
    named-means op =
        let k = (placed op).below in
        let low : get_or table (operator_number op) 0 < 16 = omega (arith, all-places [] table sixteen.1 (operator_number op) (omega (arith, k, sixteen.0))) in
        defined (get_or table (operator_number op) 0) low op (operator_under table (operator_number op)) (sym (under-below (operator_number op) k))

-- ---- under the manual's

own-place : (n : ℕ) → n < 16 → get_or manual_table n 0 ≡ n
own-place n h = eqb-true (get_or manual_table n 0) n (everywhere (λ (k : ℕ). eqb (get_or manual_table k 0) k) 16 refl n h)

manual-means : (n : ℕ) → operator_under manual_table n ≡ operator_of n
manual-means n =
    by_le 16 n (λ h. means-none manual_table n h ∙ sym (past n h)) (λ low. under-below manual_table n low ∙ ap operator_of (own-place n low))

manual-names : (op : Operator) → named manual_table op ≡ op
unfolding named
manual-names op = ap (λ (sub : Option Operator). unwrap_or sub op) (manual-means (operator_number op) ∙ (placed op).stands)

manual-passes : table_test manual_table ≡ true
unfolding table_test
manual-passes = refl

pub lent-tables : LentTables
lent-tables = record { once = one-for; means = named-means; none = means-none; manual = manual-passes; manual_means = manual-means; manual_names = manual-names }
