-- The manual's table read there and back, and so what a lent table names: the operator that the suboperation's number means under it.
use Prim.Native.Nat.{ℕ, ◌<◌, ◌≤◌}
use native.Mathlib.Omega.{arith}
use mathlib.Core.Path.{◌≡◌, refl, sym, ap, ◌∙◌}
use mathlib.Core.List.{List}
use lib.Dec.{eqb}
use borrow.Author.Tests.{le-ltb, eqb-true}
use Rattle.std.proofs.Common.{Option, Some, None}
use Rattle.descriptor.proofs.Truth.{by_le}
use Rattle.descriptor.proofs.Computed.{everywhere}
use Rattle.operator.specs.declared.Operator.{Operator}
use Rattle.operator.specs.Table.{operator_of, operator_number}
use Rattle.operator.specs.Lent.{operator_under, named}

abbrev pub number_in : Option Operator → ℕ
number_in (Some op) = operator_number op
number_in None = 16

-- The number of what a number means is that number.
pub numbered : (n : ℕ) → n < 16 → number_in (operator_of n) ≡ n
unfolding operator_of
numbered n h = eqb-true (number_in (operator_of n)) n (everywhere (λ (k : ℕ). eqb (number_in (operator_of k)) k) 16 refl n h)

-- A number that means something under a table: the manual's operator there, for which the table names what it means.
pub record Renamed (table : List ℕ) (n : ℕ) (o : Operator) : Type 0 where
  pub manuals : Operator
  pub defined : operator_of n ≡ Some manuals
  pub renamed : named table manuals ≡ o

module _ (table : List ℕ) (n : ℕ) where
  pub means-none : 16 ≤ n → operator_under table n ≡ None
  unfolding operator_under
  means-none h = rw (le-ltb n 16 h)

  pub means-below : {o : Operator} → operator_under table n ≡ Some o → n < 16
  means-below {o} means = by_le 16 n (λ h. let no : ◌≡◌ {A = ℕ} 0 1 = never (means-none h) in omega arith) (λ low. low)
    where
      never : operator_under table n ≡ None → ◌≡◌ {A = ℕ} 0 1
      never none = cc

module _ (table : List ℕ) (n : ℕ) {o : Operator} (means : operator_under table n ≡ Some o) where
  by-manual : n < 16 → (sub : Option Operator) → operator_of n ≡ sub → Renamed table n o
  unfolding named
  by-manual h (Some op) e = record { manuals = op; defined = e; renamed = rw (ap number_in (sym e) ∙ numbered n h, means) }
  by-manual h None e = let sixteen = ap number_in (sym e) ∙ numbered n h in absurd (omega arith)

  pub renames : Renamed table n o
  renames = by-manual (means-below table n means) (operator_of n) refl
