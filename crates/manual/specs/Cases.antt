-- The shapes of plans: a table of all that `plan_of` can give, with what is known on the way, since no line of the list of traps
-- stopped it. What holds of each shape holds of every plan, which is proved in proofs/Cases. Assumes nothing.
use Rattle.std.specs.Prelude.{ℕ, ◌+◌, ◌-◌, ◌%◌, ◌^◌, ◌≤◌, ◌<◌, ◌≡◌, Bool, true, false, cond, not, ◌&&◌, List, [], ◌∷◌, eqb, get_or, length}
use Rattle.descriptor.specs.Fields.{integer_word}
use Rattle.descriptor.specs.Kinds.{bit, is_scalar}
use Rattle.descriptor.specs.declared.address.CodeAddress.{CodeAddress}
use Rattle.operator.specs.declared.Monadic.{Monadic}
use Rattle.operator.specs.declared.Dyadic.{Dyadic}
use Rattle.operator.specs.declared.Operator.TheVariants as O
use Rattle.procedure.specs.declared.header.Header.{Header}
use Rattle.procedure.specs.Headers.{code_start, code_end, code_of}
use Rattle.procedure.specs.Directory.{selected, in_directory, header_of_function}
use Rattle.segment.specs.Cells.{Cell}
use Rattle.instruction.specs.declared.Address.{Address}
use Rattle.instruction.specs.declared.MemoryOperation.TheVariants as M
use Rattle.instruction.specs.declared.StackOperation.TheVariants as S
use Rattle.instruction.specs.declared.ArrayOperation.TheVariants as R
use Rattle.instruction.specs.declared.Instruction.{Instruction}
use Rattle.instruction.specs.declared.Instruction.TheVariants as I
use Rattle.manual.specs.OrTrap.{OrTrap, gives, trap}
use Rattle.manual.specs.Values as values
use Rattle.manual.specs.Values.{Value, any}
use Rattle.manual.specs.Effects.{Source, variable, operand, word, undefined_value, reference, made, Effect, replaces, discards, swaps, stores, stores_element, enters, leaves, jumps, sets_origin}
use Rattle.manual.specs.Seen.{Seen, Variable, variables_of}
use Rattle.manual.specs.Loads.{is_undefined}
use Rattle.manual.specs.Scalars.{value_of, result_source, operands, is_scalar_cell, any_cell, cell_word, subscripted}
use Rattle.manual.specs.Memory.{has_no_value}
use Rattle.manual.specs.Control.{frame_word}
use Rattle.manual.specs.Instructions.{Running, segment_of, header_of, words_from, resolve}
use Rattle.manual.specs.Traps.{listed}

-- A property of what is given, or else of the trap.
abbrev pub OfPlan : {A : Type 0} → (A → Type 0) → (ℕ → ℕ → Type 0) → OrTrap A → Type 0
OfPlan P T (gives a) = P a
OfPlan P T (trap class number) = T class number

-- The i-th operand has that value.
abbrev pub Operand : Seen → ℕ → Value → Type 0
Operand seen i a = value_of (seen.operand i) ≡ gives a

-- The address leads to that variable.
abbrev pub Reaches : Running → Seen → Address → Variable → Type 0
Reaches f seen a x = resolve seen (header_of f) a ≡ gives x

abbrev pub AllScalars : List Cell → Type 0
AllScalars cells = any_cell (λ c. not (is_scalar_cell c)) cells ≡ false

-- The words of a CONSTANT_VECTOR.
abbrev pub words_of : Running → ℕ → CodeAddress → List ℕ
words_of f count first = words_from (count % 2 ^ 8) (code_of (segment_of f) f.block) (first.0 % 2 ^ 16)

-- The header of the function that a CALL names.
abbrev pub called_by : Running → Bool → ℕ → Header
called_by f alternate number = header_of_function (selected alternate f.program.regular f.program.alternate) (number % 2 ^ 11)

-- What the instructions that push give.
pub data Pushed (f : Running) (seen : Seen) : Instruction → Source → Type 0 where
  of_load : {a : Address} {x : Variable} → Reaches f seen a x → is_undefined x.held ≡ false → Pushed f seen (I.Load a) (variable x.place)
  of_reference : {a : Address} {x : Variable} → Reaches f seen a x → Pushed f seen (I.Memory M.Reference a) (reference x.place)
  of_test_defined : {a : Address} {x : Variable} → Reaches f seen a x
      → Pushed f seen (I.Memory M.TestDefined a) (word (cond (is_undefined x.held) 0 1))
  of_undefined : Pushed f seen (I.Stack S.Undefined) undefined_value
  of_get_origin : Pushed f seen (I.Stack S.GetOrigin) (word seen.origin)
  of_short_constant : {negative : Bool} {magnitude : ℕ}
      → Pushed f seen (I.ShortConstant negative magnitude) (word (integer_word (bit negative) (magnitude % 2 ^ 12)))
  of_constant_scalar : {w : ℕ} → is_scalar w ≡ true → Pushed f seen (I.ConstantScalar w) (word w)
  of_constant_vector : {count : ℕ} {first : CodeAddress} → any (λ w. not (is_scalar w)) (words_of f count first) ≡ false
      → Pushed f seen (I.ConstantVector count first) (made (length (words_of f count first) ∷ []) (words_of f count first))

-- The results that take the place of so many operands.
pub data Result (f : Running) (seen : Seen) : Instruction → ℕ → Value → Type 0 where
  of_monadic : {op : Monadic} {a v : Value} → Operand seen 0 a → values.monadic op a ≡ gives v → Result f seen (I.Scalar (O.Monadic op)) 1 v
  of_dyadic : {op : Dyadic} {a b v : Value} → Operand seen 0 a → Operand seen 1 b → values.dyadic op a b ≡ gives v
      → Result f seen (I.Scalar (O.Dyadic op)) 2 v
  of_shape : {a : Value} → Operand seen 0 a → Result f seen (I.Array R.Shape) 1 (values.shape_of a)
  of_ravel : {a : Value} → Operand seen 0 a → Result f seen (I.Array R.Ravel) 1 (values.ravel_of a)
  of_reshape : {a b v : Value} → Operand seen 0 a → Operand seen 1 b → values.reshape a b ≡ gives v → Result f seen (I.Array R.Reshape) 2 v
  of_catenate : {a b v : Value} → Operand seen 0 a → Operand seen 1 b → values.catenate a b ≡ gives v
      → Result f seen (I.Array R.Catenate) 2 v
  of_index_generator : {a v : Value} → Operand seen 0 a → values.index_generator seen.origin a ≡ gives v
      → Result f seen (I.Array R.IndexGenerator) 1 v
  of_index : {rank k : ℕ} {a : Value} → Operand seen 0 a → eqb (values.rank a) 0 ≡ false → AllScalars (operands seen 1 (rank % 2 ^ 4))
      → subscripted seen.origin (rank % 2 ^ 4) a.shape (operands seen 1 (rank % 2 ^ 4)) ≡ gives k
      → Result f seen (I.Index rank) (rank % 2 ^ 4 + 1) (values.scalar (get_or a.ravel k 0))

-- Where PCTR goes: to the instruction that follows, or to a place inside the code.
pub data Goes (f : Running) (next : ℕ) : ℕ → Type 0 where
  onward : Goes f next next
  inside : {place : ℕ} → code_start ≤ place → place < code_end (header_of f) → Goes f next place

-- The function can be left, where so many temporaries would stay.
pub record Leaving (f : Running) (seen : Seen) (temporaries : ℕ) : Type 0 where
  pub none : temporaries ≡ 0
  pub below : seen.bottom ≡ false
  pub defined : ((header_of f).result && is_undefined (seen.result (header_of f).result)) ≡ false

-- An element of a variable's array is assigned.
pub record Element (f : Running) (seen : Seen) (a : Address) (rank : ℕ) (x : Variable) (k : ℕ) : Type 0 where
  pub reaches : Reaches f seen a x
  pub array : Value
  pub holds : value_of x.held ≡ gives array
  pub ranked : eqb (values.rank array) 0 ≡ false
  pub valued : any_cell has_no_value (operands seen 0 (rank + 1)) ≡ false
  pub scalars : AllScalars (operands seen 0 (rank + 1))
  pub there : subscripted seen.origin rank array.shape (operands seen 0 rank) ≡ gives k

-- A CALL finds its function, its arguments and the room for its frame.
pub record Calling (f : Running) (seen : Seen) (arguments : ℕ) (alternate : Bool) (number : ℕ) : Type 0 where
  pub found : in_directory alternate f.program.regular f.program.alternate (number % 2 ^ 11) ≡ true
  pub given : arguments ≤ seen.count
  pub wanted : arguments ≡ (called_by f alternate number).nargs
  pub room : (called_by f alternate number).nlocals + 2 ≤ seen.room

-- The property of effects, and of traps, for every shape of the plan of an instruction, after which stands `next`.
pub record Cases (f : Running) (seen : Seen) (i : Instruction) (next : ℕ) (P : List Effect → Type 0) (T : ℕ → ℕ → Type 0) : Type 0 where
  -- traps: of an address, of a list
  pub unresolved : (a : Address) (class number : ℕ) → resolve seen (header_of f) a ≡ trap class number → T class number
  pub stopped : (class number : ℕ) → listed class number ≡ true → T class number
  -- a result is pushed, or takes the place of operands
  pub pushed : {source : Source} → Pushed f seen i source → 1 ≤ seen.room → P (replaces 0 source ∷ jumps next ∷ [])
  pub result : {n : ℕ} {v : Value} → Result f seen i n v → 1 ≤ n → n ≤ seen.count → P (replaces n (result_source v) ∷ jumps next ∷ [])
  -- SETORIGIN
  pub origin : (a : Value) (b : Bool) → i ≡ I.Stack S.SetOrigin → 1 ≤ seen.count → Operand seen 0 a → values.truth_of_value a ≡ gives b
      → P (sets_origin (bit b) ∷ replaces 1 (word seen.origin) ∷ jumps next ∷ [])
  -- ASSIGN, ASSIGN_NORESULT, ASSIGN_INDEXED
  pub assigned : (a : Address) (x : Variable) (v : Value) → i ≡ I.Memory M.Assign a → Reaches f seen a x → 1 ≤ seen.count → Operand seen 0 v
      → P (stores x.place (operand 0) ∷ jumps next ∷ [])
  pub assigned_no_result : (a : Address) (x : Variable) (v : Value) → i ≡ I.Memory M.AssignNoResult a → Reaches f seen a x → 1 ≤ seen.count
      → Operand seen 0 v → P (stores x.place (operand 0) ∷ discards 1 ∷ jumps next ∷ [])
  pub assigned_element : (rank : ℕ) (a : Address) (x : Variable) (k : ℕ) → i ≡ I.Memory (M.AssignIndexed rank) a → rank % 2 ^ 4 + 1 ≤ seen.count
      → Element f seen a (rank % 2 ^ 4) x k
      → P (stores_element x.place k (cell_word (seen.operand (rank % 2 ^ 4))) (rank % 2 ^ 4 + 1) ∷ jumps next ∷ [])
  -- INTERCHANGE
  pub interchanged : i ≡ I.Stack S.Interchange → 2 ≤ seen.count → P (swaps ∷ jumps next ∷ [])
  -- NO_OPERATION, GO; with an operand dropped EAT1, GO_TRUE, GO_FALSE, BRANCH
  pub gone : {place : ℕ} → Goes f next place → P (jumps place ∷ [])
  pub dropped : {place : ℕ} → 1 ≤ seen.count → Goes f next place → P (discards 1 ∷ jumps place ∷ [])
  -- RETURN; with an operand dropped BRANCH
  pub left : Leaving f seen seen.count → P (leaves (variables_of (header_of f)) (header_of f).result ∷ [])
  pub left_dropping : 1 ≤ seen.count → Leaving f seen (seen.count - 1) → P (discards 1 ∷ leaves (variables_of (header_of f)) (header_of f).result ∷ [])
  -- CALL
  pub entered : (arguments : ℕ) (alternate : Bool) (number : ℕ) → i ≡ I.Call arguments alternate number → Calling f seen arguments alternate number
      → P (jumps next ∷ enters (called_by f alternate number).nlocals (frame_word alternate (number % 2 ^ 11)) ∷ [])
