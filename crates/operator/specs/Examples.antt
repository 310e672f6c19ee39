-- The operators numbered from the last to the first, what suboperations mean then, and tables that are none. Nothing rests on this file.
-- Assumes nothing.
use Rattle.std.specs.Prelude.{ℕ, ◌≡◌, refl, true, false, List, [], ◌∷◌, set, take, Some, None}
use Rattle.operator.specs.declared.Monadic.TheVariants.{Identity, Negative}
use Rattle.operator.specs.declared.Dyadic.TheVariants.{Less, Equal}
use Rattle.operator.specs.declared.Operator.TheVariants as O
use Rattle.operator.specs.Table.{operator_of}
use Rattle.operator.specs.Lent.{table_test, operator_under, named}

abbrev backwards : List ℕ
backwards = 15 ∷ 14 ∷ 13 ∷ 12 ∷ 11 ∷ 10 ∷ 9 ∷ 8 ∷ 7 ∷ 6 ∷ 5 ∷ 4 ∷ 3 ∷ 2 ∷ 1 ∷ 0 ∷ []

record Numbering : Type 0 where
  passes : table_test backwards ≡ true
  -- 0 is EQUAL and 14 NEGATIVE, which the manual has as IDENTITY and LESS; 16 means nothing
  first : operator_under backwards 0 ≡ Some (O.Dyadic Equal)
  fourteenth : operator_under backwards 14 ≡ Some (O.Monadic Negative)
  beyond : operator_under backwards 16 ≡ None
  renamed : (named backwards (O.Monadic Identity) ≡ O.Dyadic Equal) × (named backwards (O.Dyadic Less) ≡ O.Monadic Negative)
  -- fifteen bytes, no byte, a byte above 15, one that is repeated
  short : table_test (take 15 backwards) ≡ false
  empty : table_test [] ≡ false
  large : table_test (set backwards 3 16) ≡ false
  repeated : table_test (set backwards 15 15) ≡ false

numbering : Numbering
unfolding table_test operator_under named operator_of
numbering =
    record { passes = refl; first = refl; fourteenth = refl; beyond = refl; renamed = (refl, refl); short = refl; empty = refl; large = refl; repeated = refl }
