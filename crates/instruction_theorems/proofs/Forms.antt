-- What the suboperation of a first byte means, and what a field that was put into bytes reads as.
use mathlib.Core.Path.{◌≡◌, refl}
use mathlib.Core.Bool.{Bool, true, false}
use mathlib.Core.List.{List}
use Prim.Native.Nat.{ℕ, ◌+◌, ◌*◌, ◌/◌, ◌%◌, ◌^◌, ◌≤◌, ◌<◌}
use native.Mathlib.Nat.{div-add-mod'}
use native.Mathlib.Omega.{arith}
use lib.Dec.{eqb}
use borrow.Author.Tests.{eq-eqb, ne_eqb, le-leb}
use Rattle.std.proofs.Common.{Some}
use Rattle.descriptor.specs.Kinds.{bit}
use Rattle.operator.specs.Table.{operator_number}
use Rattle.operator.specs.declared.Monadic.TheVariants as M
use Rattle.operator.specs.declared.Dyadic.TheVariants as D
use Rattle.operator.specs.declared.Operator.{Operator}
use Rattle.operator.specs.declared.Operator.TheVariants as O
use Rattle.operator.specs.Table.{operator_of}
use Rattle.instruction.specs.declared.MemoryOperation.{MemoryOperation}
use Rattle.instruction.specs.declared.MemoryOperation.TheVariants.{AssignIndexed, Assign, AssignNoResult, Reference, TestDefined}
use Rattle.instruction.specs.declared.StackOperation.{StackOperation}
use Rattle.instruction.specs.declared.StackOperation.TheVariants.{Undefined, Eat1, Interchange, SetOrigin, GetOrigin}
use Rattle.instruction.specs.declared.ArrayOperation.{ArrayOperation}
use Rattle.instruction.specs.declared.ArrayOperation.TheVariants.{Shape, Reshape, Ravel, Catenate, IndexGenerator}
use Rattle.instruction.specs.declared.ControlOperation.{ControlOperation}
use Rattle.instruction.specs.declared.ControlOperation.TheVariants.{Branch, Return, NoOperation, Breakpoint, Attention}
use Rattle.instruction.specs.declared.Jump.{Jump}
use Rattle.instruction.specs.declared.Jump.TheVariants.{Go, GoTrue, GoFalse}
use Rattle.instruction.specs.declared.Instruction.TheVariants as I
use Rattle.instruction.specs.declared.cursor.Cursor.{Cursor}
use Rattle.instruction.specs.Families.{family_in, family_of}
use Rattle.instruction.specs.Tables.{memory_of, etc_of}
use Rattle.instruction.specs.Decoding.{decoded_to, memory_at, constant_scalar_at, constant_vector_at, jump_at, call_at, etc_at, family_at}
use Rattle.instruction_theorems.specs.Encoder.{memory_number, stack_number, array_number, control_number, jump_number, MemoryFits}
use Rattle.instruction.proofs.Ranges.{is-mem-ref, is-index}

module _ (code : List ℕ) (c : Cursor) where
  pub scalar-form : (o : Operator)
      → family_at code c (0x60 + operator_number o) (family_of (0x60 + operator_number o)) ≡ decoded_to (I.Scalar o) c
  unfolding family_at family_of family_in operator_of
  scalar-form (O.Monadic M.Identity) = refl
  scalar-form (O.Monadic M.Negative) = refl
  scalar-form (O.Monadic M.Floor) = refl
  scalar-form (O.Monadic M.Ceiling) = refl
  scalar-form (O.Monadic M.Magnitude) = refl
  scalar-form (O.Monadic M.Not) = refl
  scalar-form (O.Monadic M.TestNumber) = refl
  scalar-form (O.Monadic M.Convert) = refl
  scalar-form (O.Dyadic D.Sum) = refl
  scalar-form (O.Dyadic D.Difference) = refl
  scalar-form (O.Dyadic D.Product) = refl
  scalar-form (O.Dyadic D.Quotient) = refl
  scalar-form (O.Dyadic D.LogicalProduct) = refl
  scalar-form (O.Dyadic D.LogicalSum) = refl
  scalar-form (O.Dyadic D.Less) = refl
  scalar-form (O.Dyadic D.Equal) = refl

  pub stack-form : (o : StackOperation)
      → family_at code c (0xA0 + stack_number o) (family_of (0xA0 + stack_number o)) ≡ decoded_to (I.Stack o) c
  unfolding family_at family_of family_in etc_of etc_at
  stack-form Undefined = refl
  stack-form Eat1 = refl
  stack-form Interchange = refl
  stack-form SetOrigin = refl
  stack-form GetOrigin = refl

  pub array-form : (o : ArrayOperation)
      → family_at code c (0xA0 + array_number o) (family_of (0xA0 + array_number o)) ≡ decoded_to (I.Array o) c
  unfolding family_at family_of family_in etc_of etc_at
  array-form Shape = refl
  array-form Reshape = refl
  array-form Ravel = refl
  array-form Catenate = refl
  array-form IndexGenerator = refl

  pub control-form : (o : ControlOperation)
      → family_at code c (0xA0 + control_number o) (family_of (0xA0 + control_number o)) ≡ decoded_to (I.Control o) c
  unfolding family_at family_of family_in etc_of etc_at
  control-form Branch = refl
  control-form Return = refl
  control-form NoOperation = refl
  control-form Breakpoint = refl
  control-form Attention = refl

  pub jump-form : (jump : Jump)
      → family_at code c (0xA0 + jump_number jump) (family_of (0xA0 + jump_number jump)) ≡ jump_at code c jump
  unfolding family_at family_of family_in etc_of etc_at
  jump-form Go = refl
  jump-form GoTrue = refl
  jump-form GoFalse = refl

  pub word-form : family_at code c 0xAA (family_of 0xAA) ≡ constant_scalar_at code c
  unfolding family_at family_of family_in etc_of etc_at
  word-form = refl

  pub vector-form : family_at code c 0xAB (family_of 0xAB) ≡ constant_vector_at code c
  unfolding family_at family_of family_in etc_of etc_at
  vector-form = refl

  pub call-form : family_at code c 0xB1 (family_of 0xB1) ≡ call_at code c
  unfolding family_at family_of family_in etc_of etc_at
  call-form = refl

  -- ASSIGN_INDEXED's rank is its suboperation.
  indexed : (rank : ℕ) → 1 ≤ rank → rank ≤ 15 → memory_of ((0x80 + rank) % 2 ^ 5) ≡ Some (AssignIndexed rank)
  unfolding memory_of
  indexed rank l h =
      let e : (0x80 + rank) % 2 ^ 5 ≡ rank = omega arith in
      let positive : eqb rank 0 ≡ false = ne_eqb rank 0 (λ z. omega (arith, z)) in
      rw e (simp (positive, le-leb rank 15 h))

  pub memory-form : (o : MemoryOperation) → MemoryFits o
      → family_at code c (0x80 + memory_number o) (family_of (0x80 + memory_number o)) ≡ memory_at code c (Some o)
  unfolding family_at family_of family_in memory_of
  memory-form (AssignIndexed rank) fits = rw (is-mem-ref (0x80 + rank) (omega arith) (omega (arith, fits.1)), indexed rank fits.0 fits.1)
  memory-form Assign fits = refl
  memory-form AssignNoResult fits = refl
  memory-form Reference fits = refl
  memory-form TestDefined fits = refl

  pub index-form : (rank : ℕ) → rank < 16
      → family_at code c (0xE0 + rank) (family_of (0xE0 + rank)) ≡ decoded_to (I.Index rank) c
  unfolding family_at
  index-form rank h =
      let e : (0xE0 + rank) % 2 ^ 4 ≡ rank = omega arith in
      rw (is-index (0xE0 + rank) (omega arith) (omega arith), e)

-- Two bytes of a number give it back.
pub joined : (v : ℕ) → v / 2 ^ 8 * 2 ^ 8 + v % 2 ^ 8 ≡ v
joined v = div-add-mod' v (2 ^ 8)

-- Four bytes of a word give it back.
pub joined_word : (w : ℕ)
    → (w / 2 ^ 24 * 2 ^ 8 + w / 2 ^ 16 % 2 ^ 8) * 2 ^ 16 + (w / 2 ^ 8 % 2 ^ 8 * 2 ^ 8 + w % 2 ^ 8) ≡ w
joined_word w = omega arith

-- A bit below which a field lies.
pub bit-back : (t : Bool) (v : ℕ) → v ≡ bit t → eqb v 1 ≡ t
bit-back true v e = eq-eqb v 1 e
bit-back false v e = ne_eqb v 1 (λ z. omega (arith, z, e))
