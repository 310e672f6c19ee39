-- The walk over all plans: what holds of every shape of specs/Cases holds of the plan of every instruction.
use Rattle.std.proofs.Common.{Option, Some, None}
use Prim.Native.Nat.{ℕ, ◌+◌, ◌-◌, ◌%◌, ◌^◌, ◌≤◌}
use mathlib.Core.Path.{◌≡◌, refl}
use mathlib.Core.Bool.{Bool, true, false, cond, not, ◌&&◌, ◌||◌}
use mathlib.Core.List.{List, [], ◌∷◌, ◌++◌}
use native.Mathlib.Omega.{arith}
use lib.Dec.{ltb, leb, eqb}
use borrow.Author.Tests.{ltb-false, leb-false, eqb-true, not-false}
use Rattle.descriptor.specs.Kinds.{is_scalar}
use Rattle.scalar.specs.declared.Whole.{Whole}
use Rattle.scalar.specs.declared.Whole.TheVariants as W
use Rattle.scalar.specs.Reading.{whole_of}
use Rattle.operator.specs.declared.Operator.TheVariants as O
use Rattle.descriptor.specs.declared.address.CodeAddress.{CodeAddress}
use Rattle.procedure.specs.Headers.{code_start, code_end, line_of}
use Rattle.procedure.specs.Directory.{in_directory}
use Rattle.instruction.specs.declared.Address.{Address}
use Rattle.instruction.specs.declared.MemoryOperation.TheVariants as M
use Rattle.instruction.specs.declared.StackOperation.TheVariants as S
use Rattle.instruction.specs.declared.ArrayOperation.TheVariants as R
use Rattle.instruction.specs.declared.ControlOperation.TheVariants as C
use Rattle.instruction.specs.declared.Jump.TheVariants as J
use Rattle.instruction.specs.declared.Instruction.{Instruction}
use Rattle.instruction.specs.declared.Instruction.TheVariants as I
use Rattle.manual.specs.OrTrap.{OrTrap, gives, trap, and_then, stop_if}
use Rattle.manual.specs.Values as values
use Rattle.manual.specs.Values.{Value, any}
use Rattle.manual.specs.Effects.{Source, Effect, discards, leaves, jumps, Plan}
use Rattle.manual.specs.Seen.{Seen, Variable, variables_of}
use Rattle.manual.specs.Loads as loads
use Rattle.manual.specs.Loads.{is_undefined}
use Rattle.manual.specs.Scalars as scalars
use Rattle.manual.specs.Scalars.{value_of, operands, is_foreign, is_scalar_cell, any_cell, subscripted}
use Rattle.manual.specs.Memory as memory
use Rattle.manual.specs.Memory.{has_no_value}
use Rattle.manual.specs.Control as control
use Rattle.manual.specs.Instructions.{Running, segment_of, header_of, resolve, call_plan, plan_of}
use Rattle.manual.specs.Traps.{listed}
use Rattle.manual.specs.Cases.{OfPlan, Operand, Reaches, words_of, called_by, Pushed, of_load, of_reference, of_test_defined, of_undefined, of_get_origin, of_short_constant, of_constant_scalar, of_constant_vector, Result, of_monadic, of_dyadic, of_shape, of_ravel, of_reshape, of_catenate, of_index_generator, of_index, Goes, onward, inside, Leaving, Cases}
use Rattle.manual.proofs.Tests.{none-holds}
use Rattle.manual.proofs.Lists.{stops, goes, either, Listed, in-table}
use Rattle.manual.proofs.Values.{value-listed, monadic-listed, dyadic-listed, truth-listed, catenate-listed, generator-listed, reshape-listed, subscripted-listed}

-- What is known of a result, if it is one, and else that the table has the trap.
known : {A : Type 0} (P : A → Type 0) (x : OrTrap A) → Listed x → ((a : A) → x ≡ gives a → P a) → OfPlan P (λ class number. listed class number ≡ true) x
known P (gives a) l h = h a refl
known P (trap class number) l h = l

module _ {f : Running} {seen : Seen} {i : Instruction} {next : ℕ} (P : List Effect → Type 0) (T : ℕ → ℕ → Type 0) (k : Cases f seen i next P T) where
  abbrev Has : Plan → Type 0
  Has plan = OfPlan P T plan

  -- ---- lines that many lists have

  by-table : {A : Type 0} (x : OrTrap A) → Listed x → (class number : ℕ) → x ≡ trap class number → T class number
  by-table x h class number e = k.stopped class number (in-table x h class number e)

  stop : (test : Bool) (class number : ℕ) (rest : Plan) → listed class number ≡ true → (test ≡ false → Has rest) → Has (stop_if test class number rest)
  stop test class number rest l h = stops P T test class number rest (k.stopped class number l) h

  reaches : (a : Address) (rest : Variable → Plan) → ((x : Variable) → Reaches f seen a x → Has (rest x))
      → Has (and_then (resolve seen (header_of f) a) rest)
  reaches a rest h = goes P T (resolve seen (header_of f) a) rest (k.unresolved a) h

  counts : (n : ℕ) (rest : Plan) → (n ≤ seen.count → Has rest) → Has (stop_if (ltb seen.count n) 3 4 rest)
  unfolding listed
  counts n rest h = stop (ltb seen.count n) _ _ rest refl (λ e. h (ltb-false seen.count n e))

  operand-is : (n : ℕ) (rest : Value → Plan) → ((a : Value) → Operand seen n a → Has (rest a)) → Has (and_then (value_of (seen.operand n)) rest)
  operand-is n rest h = goes P T (value_of (seen.operand n)) rest (by-table (value_of (seen.operand n)) (value-listed (seen.operand n))) h

  -- ---- results

  push-has : (source : Source) → Pushed f seen i source → Has (loads.push seen next source)
  unfolding listed
  push-has source h = stop (ltb seen.room 1) _ _ _ refl (λ e. k.pushed h (ltb-false seen.room 1 e))

  abbrev Gives : ℕ → OrTrap Value → Type 0
  Gives n x = OfPlan (λ v. Result f seen i n v) (λ class number. listed class number ≡ true) x

  result-has : (n : ℕ) (x : OrTrap Value) → 1 ≤ n → n ≤ seen.count → Gives n x → Has (scalars.replace_by next n x)
  result-has n (gives v) m c h = k.result h m c
  result-has n (trap class number) m c h = k.stopped class number h

  one_has : (g : Value → OrTrap Value) → ((a : Value) → Operand seen 0 a → Gives 1 (g a)) → Has (scalars.of_one seen next g)
  one_has g h = counts 1 _ (λ c. operand-is 0 _ (λ a p. result-has 1 (g a) (omega arith) c (h a p)))

  two-has : (g : Value → Value → OrTrap Value) → ((a b : Value) → Operand seen 0 a → Operand seen 1 b → Gives 2 (g a b))
      → Has (scalars.of_two seen next g)
  two-has g h =
      counts 2 _ (λ c. operand-is 0 _ (λ a p. operand-is 1 _ (λ b q. result-has 2 (g a b) (omega arith) c (h a b p q))))

  -- ---- stores

  assigning-has : (a : Address) (effects : Variable → List Effect)
      → ((x : Variable) (v : Value) → Reaches f seen a x → 1 ≤ seen.count → Operand seen 0 v → P (effects x))
      → Has (memory.assigning seen (resolve seen (header_of f) a) effects)
  assigning-has a effects h = reaches a _ (λ x r. counts 1 _ (λ c. operand-is 0 _ (λ v p. h x v r c p)))

  -- ---- jumps and returns

  jump-has : (place : ℕ) (before : List Effect) → (Goes f next place → P (before ++ (jumps place ∷ [])))
      → Has (control.jump_to (header_of f) place before)
  unfolding listed
  jump-has place before h =
      stop (ltb place code_start || leb (code_end (header_of f)) place) _ _ _ refl (λ e.
      let n = none-holds (ltb place code_start) (leb (code_end (header_of f)) place) e in
      h (inside (ltb-false place code_start n.0) (leb-false (code_end (header_of f)) place n.1)))

  leaving-has : (temporaries : ℕ) (before : List Effect)
      → (Leaving f seen temporaries → P (before ++ (leaves (variables_of (header_of f)) (header_of f).result ∷ [])))
      → Has (control.leaving seen (header_of f) temporaries before)
  unfolding listed
  leaving-has temporaries before h =
      stop (ltb 0 temporaries) _ _ _ refl (λ e.
      stop seen.bottom _ _ _ refl (λ b.
      stop ((header_of f).result && is_undefined (seen.result (header_of f).result)) _ _ _ refl (λ r.
      h (record { none = omega (arith, ltb-false 0 temporaries e); below = b; defined = r }))))

  go_if-has : (wanted : Bool) (place : ℕ) → Has (control.go_if seen (header_of f) next wanted place)
  unfolding control.go_if
  go_if-has wanted place =
      counts 1 _ (λ c.
      operand-is 0 _ (λ a p.
      goes P T (values.truth_of_value a) _ (by-table (values.truth_of_value a) (truth-listed a)) (λ b e.
      either P T (cond wanted b (not b)) _ _ (λ t. jump-has place (discards 1 ∷ []) (k.dropped c)) (λ t. k.dropped c onward))))

  line-has : 1 ≤ seen.count → (line : Option CodeAddress) → Has (control.line_or_leave seen (header_of f) line)
  line-has c (Some place) = jump-has place.0 (discards 1 ∷ []) (k.dropped c)
  line-has c None = leaving-has (seen.count - 1) (discards 1 ∷ []) (k.left_dropping c)

  branch_to-has : 1 ≤ seen.count → (line : ℕ → Option CodeAddress) (n : Whole) → Has (control.branch_to seen (header_of f) line n)
  unfolding listed
  branch_to-has c line (W.Number negative n) = line-has c (line (control.line_number negative n))
  branch_to-has c line W.Fraction = k.stopped _ _ refl
  branch_to-has c line W.Character = k.stopped _ _ refl

  branch-has : (line : ℕ → Option CodeAddress) → Has (control.branch seen (header_of f) line next)
  unfolding control.branch listed
  branch-has line =
      counts 1 _ (λ c.
      operand-is 0 _ (λ a p.
      stop (ltb 1 (values.rank a)) _ _ _ refl (λ r.
      either P T (eqb (values.size a) 0) _ _ (λ z. k.dropped c onward) (λ z. branch_to-has c line (whole_of (values.first a.ravel))))))

-- ---- instructions of longer lists

module _ {f : Running} {seen : Seen} {next : ℕ} (P : List Effect → Type 0) (T : ℕ → ℕ → Type 0) where
  origin-cases : Cases f seen (I.Stack S.SetOrigin) next P T → OfPlan P T (scalars.set_origin seen next)
  unfolding scalars.set_origin
  origin-cases k =
      counts P T k 1 _ (λ c.
      operand-is P T k 0 _ (λ a p.
      goes P T (values.truth_of_value a) _ (by-table P T k (values.truth_of_value a) (truth-listed a)) (λ b e. k.origin a b refl c p e)))

  index-cases : (rank : ℕ) → Cases f seen (I.Index rank) next P T → OfPlan P T (scalars.index seen next (rank % 2 ^ 4))
  unfolding scalars.index listed
  index-cases rank k =
      let n = rank % 2 ^ 4 in
      counts P T k (n + 1) _ (λ c.
      operand-is P T k 0 _ (λ a p.
      stop P T k (any_cell is_foreign (operands seen 1 n)) _ _ _ refl (λ e.
      stop P T k (eqb (values.rank a) 0 || any_cell (λ c. not (is_scalar_cell c)) (operands seen 1 n)) _ _ _ refl (λ q.
      let s = none-holds (eqb (values.rank a) 0) (any_cell (λ c. not (is_scalar_cell c)) (operands seen 1 n)) q in
      let there = subscripted seen.origin n a.shape (operands seen 1 n) in
      goes P T there _ (by-table P T k there (subscripted-listed seen.origin n a.shape (operands seen 1 n))) (λ j r.
      k.result (of_index p s.0 s.1 r) (omega arith) c)))))

  element-cases : (rank : ℕ) (a : Address) → Cases f seen (I.Memory (M.AssignIndexed rank) a) next P T
      → OfPlan P T (memory.assign_indexed seen next (rank % 2 ^ 4) (resolve seen (header_of f) a))
  unfolding memory.assign_indexed listed
  element-cases rank a k =
      let n = rank % 2 ^ 4 in
      reaches P T k a _ (λ x g.
      counts P T k (n + 1) _ (λ c.
      goes P T (value_of x.held) _ (by-table P T k (value_of x.held) (value-listed x.held)) (λ v p.
      stop P T k (any_cell has_no_value (operands seen 0 (n + 1))) _ _ _ refl (λ e.
      stop P T k (eqb (values.rank v) 0 || any_cell (λ c. not (is_scalar_cell c)) (operands seen 0 (n + 1))) _ _ _ refl (λ q.
      let s = none-holds (eqb (values.rank v) 0) (any_cell (λ c. not (is_scalar_cell c)) (operands seen 0 (n + 1))) q in
      let there = subscripted seen.origin n v.shape (operands seen 0 n) in
      goes P T there _ (by-table P T k there (subscripted-listed seen.origin n v.shape (operands seen 0 n))) (λ j r.
      k.assigned_element rank a x j refl c
      (record { reaches = g; array = v; holds = p; ranked = s.0; valued = e; scalars = s.1; there = r })))))))

  call-cases : (arguments : ℕ) (alternate : Bool) (number : ℕ) → Cases f seen (I.Call arguments alternate number) next P T
      → OfPlan P T (call_plan f seen next arguments alternate (number % 2 ^ 11))
  unfolding control.call listed
  call-cases arguments alternate number k =
      let called = called_by f alternate number in
      stop P T k (not (in_directory alternate f.program.regular f.program.alternate (number % 2 ^ 11))) _ _ _ refl (λ d.
      stop P T k (ltb seen.count arguments || not (eqb arguments called.nargs)) _ _ _ refl (λ e.
      stop P T k (ltb seen.room (called.nlocals + 2)) _ _ _ refl (λ r.
      let n = none-holds (ltb seen.count arguments) (not (eqb arguments called.nargs)) e in
      k.entered arguments alternate number refl
      (record {
        found = not-false (in_directory alternate f.program.regular f.program.alternate (number % 2 ^ 11)) d;
        given = ltb-false seen.count arguments n.0;
        wanted = eqb-true arguments called.nargs (not-false (eqb arguments called.nargs) n.1);
        room = ltb-false seen.room (called.nlocals + 2) r;
      }))))

-- ---- every instruction

module _ (f : Running) (seen : Seen) where
  pub plan-cases : (i : Instruction) (next : ℕ) (P : List Effect → Type 0) (T : ℕ → ℕ → Type 0) → Cases f seen i next P T
      → OfPlan P T (plan_of f seen i next)
  unfolding plan_of loads.load loads.refer_to loads.test_defined loads.push_undefined loads.get_origin loads.short_constant loads.constant_scalar loads.constant_vector scalars.monadic scalars.dyadic scalars.shape scalars.ravel scalars.reshape scalars.catenate scalars.index_generator memory.assign memory.assign_no_result memory.eat memory.interchange memory.no_operation control.go control.return control.breakpoint control.attention listed
  plan-cases (I.Load a) next P T k =
      reaches P T k a _ (λ x r. stop P T k (is_undefined x.held) _ _ _ refl (λ e. push-has P T k _ (of_load r e)))
  plan-cases (I.ShortConstant negative magnitude) next P T k = push-has P T k _ of_short_constant
  plan-cases (I.Scalar (O.Monadic op)) next P T k =
      one_has P T k (values.monadic op) (λ a p. known _ (values.monadic op a) (monadic-listed op a) (λ v e. of_monadic p e))
  plan-cases (I.Scalar (O.Dyadic op)) next P T k =
      two-has P T k (values.dyadic op) (λ a b p q. known _ (values.dyadic op a b) (dyadic-listed op a b) (λ v e. of_dyadic p q e))
  plan-cases (I.Memory (M.AssignIndexed rank) a) next P T k = element-cases P T rank a k
  plan-cases (I.Memory M.Assign a) next P T k = assigning-has P T k a _ (λ x v r c p. k.assigned a x v refl r c p)
  plan-cases (I.Memory M.AssignNoResult a) next P T k = assigning-has P T k a _ (λ x v r c p. k.assigned_no_result a x v refl r c p)
  plan-cases (I.Memory M.Reference a) next P T k = reaches P T k a _ (λ x r. push-has P T k _ (of_reference r))
  plan-cases (I.Memory M.TestDefined a) next P T k = reaches P T k a _ (λ x r. push-has P T k _ (of_test_defined r))
  plan-cases (I.Stack S.Undefined) next P T k = push-has P T k _ of_undefined
  plan-cases (I.Stack S.Eat1) next P T k = counts P T k 1 _ (λ c. k.dropped c onward)
  plan-cases (I.Stack S.Interchange) next P T k = counts P T k 2 _ (λ c. k.interchanged refl c)
  plan-cases (I.Stack S.SetOrigin) next P T k = origin-cases P T k
  plan-cases (I.Stack S.GetOrigin) next P T k = push-has P T k _ of_get_origin
  plan-cases (I.Array R.Shape) next P T k = one_has P T k (λ a. gives (values.shape_of a)) (λ a p. of_shape p)
  plan-cases (I.Array R.Reshape) next P T k =
      two-has P T k values.reshape (λ a b p q. known _ (values.reshape a b) (reshape-listed a b) (λ v e. of_reshape p q e))
  plan-cases (I.Array R.Ravel) next P T k = one_has P T k (λ a. gives (values.ravel_of a)) (λ a p. of_ravel p)
  plan-cases (I.Array R.Catenate) next P T k =
      two-has P T k values.catenate (λ a b p q. known _ (values.catenate a b) (catenate-listed a b) (λ v e. of_catenate p q e))
  plan-cases (I.Array R.IndexGenerator) next P T k =
      one_has P T k (values.index_generator seen.origin)
      (λ a p. known _ (values.index_generator seen.origin a) (generator-listed seen.origin a) (λ v e. of_index_generator p e))
  plan-cases (I.Control C.Branch) next P T k = branch-has P T k (line_of (segment_of f) f.block)
  plan-cases (I.Control C.Return) next P T k = leaving-has P T k seen.count [] k.left
  plan-cases (I.Control C.NoOperation) next P T k = k.gone onward
  plan-cases (I.Control C.Breakpoint) next P T k = k.stopped _ _ refl
  plan-cases (I.Control C.Attention) next P T k = k.stopped _ _ refl
  plan-cases (I.Jump J.Go place) next P T k = jump-has P T k place.0 [] k.gone
  plan-cases (I.Jump J.GoTrue place) next P T k = go_if-has P T k true place.0
  plan-cases (I.Jump J.GoFalse place) next P T k = go_if-has P T k false place.0
  plan-cases (I.ConstantScalar w) next P T k =
      stop P T k (not (is_scalar w)) _ _ _ refl (λ e. push-has P T k _ (of_constant_scalar (not-false (is_scalar w) e)))
  plan-cases (I.ConstantVector count first) next P T k =
      stop P T k (any (λ w. not (is_scalar w)) (words_of f count first)) _ _ _ refl (λ e. push-has P T k _ (of_constant_vector e))
  plan-cases (I.Call arguments alternate number) next P T k = call-cases P T arguments alternate number k
  plan-cases (I.Index rank) next P T k = index-cases P T rank k
