-- A table that is lent in place of the manual's: one operator for each suboperation of GENSCALAR in order, by its place in the
-- manual's table from 0. Document 02, paper 5. A reader must believe: test 26 is the paper's sentence. Assumes nothing.
use Rattle.std.specs.Prelude.{ℕ, Bool, true, false, cond, not, ◌&&◌, ◌||◌, List, [], ◌∷◌, leb, ltb, eqb, length, get_or, Option, None, unwrap_or}
use Rattle.operator.specs.declared.Operator.{Operator}
use Rattle.operator.specs.Table.{operator_of, operator_number}

-- The manual's own numbering: each suboperation means the operator at its place.
abbrev pub manual_table : List ℕ
manual_table = 0 ∷ 1 ∷ 2 ∷ 3 ∷ 4 ∷ 5 ∷ 6 ∷ 7 ∷ 8 ∷ 9 ∷ 10 ∷ 11 ∷ 12 ∷ 13 ∷ 14 ∷ 15 ∷ []

-- ---- test 26: "when the length is not sixteen, a byte exceeds 15 or one is repeated"

abbrev pub stands : ℕ → List ℕ → Bool
stands b [] = false
stands b (c ∷ bytes) = eqb b c || stands b bytes

-- The bytes that are left are places, and none repeats one of those before or of each other.
abbrev pub each_once : List ℕ → List ℕ → Bool
each_once before [] = true
each_once before (b ∷ bytes) = leb b 15 && not (stands b before) && each_once (b ∷ before) bytes

unfoldable pub table_test : List ℕ → Bool
table_test table = eqb (length table) 16 && each_once [] table

-- ---- what a suboperation means

-- The manual's operator at the place that its byte is; 16 to 31 mean nothing under any table.
unfoldable pub operator_under : List ℕ → ℕ → Option Operator
operator_under table number = cond (ltb number 16) (operator_of (get_or table number 0)) None

-- The operator that a table names for the suboperation which is `op` in the manual. A byte that is no place, as no table has that passes
-- test 26, leaves the manual's.
unfoldable pub named : List ℕ → Operator → Operator
named table op = unwrap_or (operator_under table (operator_number op)) op
