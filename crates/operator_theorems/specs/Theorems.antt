-- What holds of a table of operators that passes test 26. Document 02, paper 5: "Each operator must be there exactly once". Proved in
-- proofs/Theorem. Assumes nothing.
use Rattle.std.specs.Prelude.{ℕ, ◌≤◌, ◌≡◌, true, List, Some, None}
use Rattle.operator.specs.declared.Operator.{Operator}
use Rattle.operator.specs.Table.{operator_of, operator_number}
use Rattle.operator.specs.Lent.{manual_table, table_test, operator_under, named}

-- One suboperation, and no other, means that operator.
pub record OneFor (table : List ℕ) (op : Operator) : Type 0 where
  pub number : ℕ
  pub means : operator_under table number ≡ Some op
  pub only : (other : ℕ) → operator_under table other ≡ Some op → other ≡ number

pub record LentTables : Type 0 where
  pub once : (table : List ℕ) → table_test table ≡ true → (op : Operator) → OneFor table op
  -- the suboperation that is `op` in the manual means the operator that is named for it
  pub means : (table : List ℕ) → table_test table ≡ true → (op : Operator) → operator_under table (operator_number op) ≡ Some (named table op)
  -- 16 to 31 mean nothing, whatever the table
  pub none : (table : List ℕ) (number : ℕ) → 16 ≤ number → operator_under table number ≡ None
  -- the manual's own passes, and under it each suboperation means what it means in the manual
  pub manual : table_test manual_table ≡ true
  pub manual_means : (number : ℕ) → operator_under manual_table number ≡ operator_of number
  pub manual_names : (op : Operator) → named manual_table op ≡ op
