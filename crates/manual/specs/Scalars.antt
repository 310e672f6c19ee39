-- Operands and results, and the instructions that make a value from the values of their operands: GENSCALAR, SHAPE, RESHAPE,
-- RAVEL, CATENATE, INDEXGEN, INDEX, SETORIGIN. Order of traps by decision 17: (3,4), (3,5), the manual's list, (1,2). Assumes
-- nothing.
use Rattle.std.specs.Prelude.{ℕ, zero, suc, ◌+◌, Bool, true, false, cond, not, ◌||◌, List, [], ◌∷◌, ltb, eqb, get_or, length}
use Rattle.descriptor.specs.Kinds.{bit}
use Rattle.operator.specs.declared.Monadic.{Monadic}
use Rattle.operator.specs.declared.Dyadic.{Dyadic}
use Rattle.segment.specs.Cells.{Cell, undefined, indirect, value as holds, invalid}
use Rattle.manual.specs.OrTrap.{OrTrap, gives, trap, and_then, stop_if}
use Rattle.manual.specs.Values as values
use Rattle.manual.specs.Values.{Value}
use Rattle.manual.specs.Effects.{Source, word, made, replaces, jumps, sets_origin, Plan}
use Rattle.manual.specs.Seen.{Seen}

-- "Where an operand is not of the kind wanted, the instruction stops there with (3,5). Kind means scalar or array."
abbrev pub value_of : Cell → OrTrap Value
value_of undefined = trap 3 5
value_of (indirect t) = trap 3 5
value_of (holds shape ravel) = gives (values.value shape ravel)
value_of invalid = trap 3 5

-- A scalar is held in its cell, an array is a new block.
abbrev pub result_source : Value → Source
result_source v = cond (eqb (values.rank v) 0) (word (values.first v.ravel)) (made v.shape v.ravel)

-- The result takes the place of n operands.
abbrev pub replace_by : ℕ → ℕ → OrTrap Value → Plan
replace_by next n result = and_then result (λ v. gives (replaces n (result_source v) ∷ jumps next ∷ []))

-- Instructions of one operand and of two.
abbrev pub of_one : Seen → ℕ → (Value → OrTrap Value) → Plan
of_one seen next f = stop_if (ltb seen.count 1) 3 4 (and_then (value_of (seen.operand 0)) (λ a. replace_by next 1 (f a)))

abbrev pub of_two : Seen → ℕ → (Value → Value → OrTrap Value) → Plan
of_two seen next f =
    stop_if (ltb seen.count 2) 3 4
    (and_then (value_of (seen.operand 0)) (λ a. and_then (value_of (seen.operand 1)) (λ b. replace_by next 2 (f a b))))

unfoldable pub monadic : Seen → ℕ → Monadic → Plan
monadic seen next op = of_one seen next (values.monadic op)

unfoldable pub dyadic : Seen → ℕ → Dyadic → Plan
dyadic seen next op = of_two seen next (values.dyadic op)

unfoldable pub shape : Seen → ℕ → Plan
shape seen next = of_one seen next (λ v. gives (values.shape_of v))

unfoldable pub ravel : Seen → ℕ → Plan
ravel seen next = of_one seen next (λ v. gives (values.ravel_of v))

unfoldable pub reshape : Seen → ℕ → Plan
reshape seen next = of_two seen next values.reshape

unfoldable pub catenate : Seen → ℕ → Plan
catenate seen next = of_two seen next values.catenate

unfoldable pub index_generator : Seen → ℕ → Plan
index_generator seen next = of_one seen next (values.index_generator seen.origin)

-- SETORIGIN: the result is the origin as it was.
unfoldable pub set_origin : Seen → ℕ → Plan
set_origin seen next =
    stop_if (ltb seen.count 1) 3 4
    (and_then (value_of (seen.operand 0)) (λ v.
    and_then (values.truth_of_value v) (λ b.
    gives (sets_origin (bit b) ∷ replaces 1 (word seen.origin) ∷ jumps next ∷ []))))

-- ---- INDEX

-- n operands from the i-th on.
abbrev pub operands : Seen → ℕ → ℕ → List Cell
operands seen i zero = []
operands seen i (suc n) = seen.operand i ∷ operands seen (suc i) n

-- A subscript of INDEX may be a scalar, an array or undefined, else (3,5); an array or undefined is then (5,0).
abbrev pub is_foreign : Cell → Bool
is_foreign undefined = false
is_foreign (indirect t) = true
is_foreign (holds shape ravel) = false
is_foreign invalid = true

abbrev pub is_scalar_cell : Cell → Bool
is_scalar_cell undefined = false
is_scalar_cell (indirect t) = false
is_scalar_cell (holds shape ravel) = eqb (length shape) 0
is_scalar_cell invalid = false

abbrev pub any_cell : (Cell → Bool) → List Cell → Bool
any_cell test [] = false
any_cell test (c ∷ cs) = test c || any_cell test cs

-- The words of scalar cells.
abbrev pub cell_word : Cell → ℕ
cell_word undefined = 0
cell_word (indirect t) = 0
cell_word (holds shape ravel) = values.first ravel
cell_word invalid = 0

abbrev pub scalar_words : List Cell → List ℕ
scalar_words [] = []
scalar_words (c ∷ cs) = cell_word c ∷ scalar_words cs

-- The place in the ravel of an array with these lengths that the subscripts lead to: (9,1), then the subscripts' own list.
abbrev pub subscripted : ℕ → ℕ → List ℕ → List Cell → OrTrap ℕ
subscripted origin rank lengths subscripts =
    stop_if (not (eqb rank (length lengths))) 9 1 (values.ravel_place origin (scalar_words subscripts) lengths)

unfoldable pub index : Seen → ℕ → ℕ → Plan
index seen next rank =
    let subscripts = operands seen 1 rank in
    stop_if (ltb seen.count (rank + 1)) 3 4
    (and_then (value_of (seen.operand 0)) (λ a.
    stop_if (any_cell is_foreign subscripts) 3 5
    (stop_if (eqb (values.rank a) 0 || any_cell (λ c. not (is_scalar_cell c)) subscripts) 5 0
    (and_then (subscripted seen.origin rank a.shape subscripts) (λ k.
    gives (replaces (rank + 1) (word (get_or a.ravel k 0)) ∷ jumps next ∷ []))))))
