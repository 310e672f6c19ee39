-- The GENSCALAR table of the manual: the operator of a suboperation number, and the number of an operator.
-- A reader must believe: the table is the manual's. Assumes nothing.
use Rattle.std.specs.Prelude.{ℕ, cond, List, [], ◌∷◌, eqb, Option, Some, None}
use Rattle.operator.specs.declared.Monadic.{Monadic}
use Rattle.operator.specs.declared.Monadic.TheVariants.{Identity, Negative, Floor, Ceiling, Magnitude, Not, TestNumber, Convert}
use Rattle.operator.specs.declared.Dyadic.{Dyadic}
use Rattle.operator.specs.declared.Dyadic.TheVariants.{Sum, Difference, Product, Quotient, LogicalProduct, LogicalSum, Less, Equal}
use Rattle.operator.specs.declared.Operator.{Operator}
use Rattle.operator.specs.declared.Operator.TheVariants as O

-- What a table of numbers has at k, and `none` where it has nothing.
abbrev pub lookup : {A : Type 0} → ℕ → List (ℕ × A) → A → A
lookup k [] none = none
lookup k (entry ∷ table) none = cond (eqb k entry.0) entry.1 (lookup k table none)

abbrev pub monadic_at : ℕ → Monadic → ℕ × Option Operator
monadic_at k o = (k, Some (O.Monadic o))

abbrev pub dyadic_at : ℕ → Dyadic → ℕ × Option Operator
dyadic_at k o = (k, Some (O.Dyadic o))

abbrev pub operators : List (ℕ × Option Operator)
operators =
    monadic_at 0 Identity
    ∷ monadic_at 1 Negative
    ∷ monadic_at 2 Floor
    ∷ monadic_at 3 Ceiling
    ∷ monadic_at 4 Magnitude
    ∷ monadic_at 5 Not
    ∷ monadic_at 6 TestNumber
    ∷ monadic_at 7 Convert
    ∷ dyadic_at 8 Sum
    ∷ dyadic_at 9 Difference
    ∷ dyadic_at 10 Product
    ∷ dyadic_at 11 Quotient
    ∷ dyadic_at 12 LogicalProduct
    ∷ dyadic_at 13 LogicalSum
    ∷ dyadic_at 14 Less
    ∷ dyadic_at 15 Equal
    ∷ []

unfoldable pub operator_of : ℕ → Option Operator
operator_of k = lookup k operators None

-- The table read the other way.
abbrev pub monadic_number : Monadic → ℕ
monadic_number Identity = 0
monadic_number Negative = 1
monadic_number Floor = 2
monadic_number Ceiling = 3
monadic_number Magnitude = 4
monadic_number Not = 5
monadic_number TestNumber = 6
monadic_number Convert = 7

abbrev pub dyadic_number : Dyadic → ℕ
dyadic_number Sum = 8
dyadic_number Difference = 9
dyadic_number Product = 10
dyadic_number Quotient = 11
dyadic_number LogicalProduct = 12
dyadic_number LogicalSum = 13
dyadic_number Less = 14
dyadic_number Equal = 15

abbrev pub operator_number : Operator → ℕ
operator_number (O.Monadic o) = monadic_number o
operator_number (O.Dyadic o) = dyadic_number o
