-- The MEMREF operations that write: ASSIGN, ASSIGN_NORESULT and ASSIGN_INDEXED, and the operations on the stack alone. Order of
-- traps by decision 17: the variable's address and indirection, (3,4), (3,5), the manual's list, (1,2). Assumes nothing.
use Rattle.std.specs.Prelude.{ℕ, ◌+◌, Bool, true, false, not, ◌||◌, List, [], ◌∷◌, ltb, eqb}
use Rattle.segment.specs.Cells.{Cell, undefined, indirect, value as holds, invalid}
use Rattle.manual.specs.OrTrap.{OrTrap, gives, and_then, stop_if}
use Rattle.manual.specs.Values as values
use Rattle.manual.specs.Effects.{operand, Effect, discards, swaps, stores, stores_element, jumps, Plan}
use Rattle.manual.specs.Seen.{Seen, Variable}
use Rattle.manual.specs.Scalars.{value_of, operands, is_scalar_cell, any_cell, cell_word, subscripted}

-- ASSIGN leaves the value on the stack; of undefined or indirect it is (3,5).
abbrev pub assigning : Seen → OrTrap Variable → (Variable → List Effect) → Plan
assigning seen resolved effects =
    and_then resolved (λ v.
    stop_if (ltb seen.count 1) 3 4
    (and_then (value_of (seen.operand 0)) (λ a. gives (effects v))))

unfoldable pub assign : Seen → ℕ → OrTrap Variable → Plan
assign seen next resolved = assigning seen resolved (λ v. stores v.place (operand 0) ∷ jumps next ∷ [])

-- "equivalent to an ASSIGN instruction followed by an EAT1 instruction"
unfoldable pub assign_no_result : Seen → ℕ → OrTrap Variable → Plan
assign_no_result seen next resolved = assigning seen resolved (λ v. stores v.place (operand 0) ∷ discards 1 ∷ jumps next ∷ [])

abbrev pub has_no_value : Cell → Bool
has_no_value undefined = true
has_no_value (indirect t) = true
has_no_value (holds shape ravel) = false
has_no_value invalid = true

-- ASSIGN_INDEXED: the first operands are the subscripts, the last is the value.
unfoldable pub assign_indexed : Seen → ℕ → ℕ → OrTrap Variable → Plan
assign_indexed seen next rank resolved =
    let taken = operands seen 0 (rank + 1) in
    let subscripts = operands seen 0 rank in
    and_then resolved (λ v.
    stop_if (ltb seen.count (rank + 1)) 3 4
    (and_then (value_of v.held) (λ a.
    stop_if (any_cell has_no_value taken) 3 5
    (stop_if (eqb (values.rank a) 0 || any_cell (λ c. not (is_scalar_cell c)) taken) 5 0
    (and_then (subscripted seen.origin rank a.shape subscripts) (λ k.
    gives (stores_element v.place k (cell_word (seen.operand rank)) (rank + 1) ∷ jumps next ∷ [])))))))

-- EAT1, INTERCHANGE, NO_OPERATION.
unfoldable pub eat : Seen → ℕ → Plan
eat seen next = stop_if (ltb seen.count 1) 3 4 (gives (discards 1 ∷ jumps next ∷ []))

unfoldable pub interchange : Seen → ℕ → Plan
interchange seen next = stop_if (ltb seen.count 2) 3 4 (gives (swaps ∷ jumps next ∷ []))

unfoldable pub no_operation : Seen → ℕ → Plan
no_operation seen next = gives (jumps next ∷ [])
