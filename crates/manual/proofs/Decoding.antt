-- One walk over what decoding gives, for any property of the words that it reads: a trap is in the table, and the word of
-- CONSTANT_SCALAR was read of the code.
use Prim.Native.Nat.{ℕ, ◌%◌, ◌^◌}
use mathlib.Core.Path.{◌≡◌, refl}
use mathlib.Core.Bool.{Bool, true, false, cond}
use mathlib.Core.List.{List}
use lib.Dec.{ltb}
use Rattle.std.proofs.Common.{Option, Some, None, Result, Ok, Err}
use Rattle.trap.specs.declared.Trap.{Trap}
use Rattle.operator.specs.declared.Operator.{Operator}
use Rattle.operator.specs.Table.{operator_of}
use Rattle.procedure.specs.Headers.{code_start}
use Rattle.instruction.specs.declared.Address.{Address}
use Rattle.instruction.specs.declared.MemoryOperation.{MemoryOperation}
use Rattle.instruction.specs.declared.Instruction.{Instruction}
use Rattle.instruction.specs.declared.Instruction.TheVariants as I
use Rattle.instruction.specs.declared.Decoded.{Decoded}
use Rattle.instruction.specs.declared.table.EtcSuboperation.{EtcSuboperation}
use Rattle.instruction.specs.declared.table.EtcSuboperation.TheVariants as E
use Rattle.instruction.specs.declared.family.Family.{Family}
use Rattle.instruction.specs.declared.family.Family.TheVariants.{ShortLocal, ShortConst, GenScalar, MemRef, Etc, LongLocal, LongGlobal, Index, Unassigned}
use Rattle.instruction.specs.declared.cursor.Cursor.{Cursor}
use Rattle.instruction.specs.Families.{family_of}
use Rattle.instruction.specs.Tables.{memory_of, etc_of}
use Rattle.instruction.specs.Reading.{cursor_at, fetch_byte, fetch_half, fetch_word, fetch_words, with_read}
use Rattle.instruction.specs.Variables.{address_in, address_at, with_address}
use Rattle.instruction.specs.Decoding.{load_at, short_constant_at, scalar_at, memory_at, constant_scalar_at, constant_vector_at, jump_at, call_at, etc_at, family_at, instruction_at}
use Rattle.manual.specs.Traps.{listed}
use Rattle.manual.specs.Program.{under_table}

-- The words that an instruction has of the code.
abbrev pub Reads : (ℕ → Type 0) → Instruction → Type 0
Reads R (I.Load a) = Unit {0}
Reads R (I.ShortConstant negative magnitude) = Unit {0}
Reads R (I.Scalar op) = Unit {0}
Reads R (I.Memory op a) = Unit {0}
Reads R (I.Stack op) = Unit {0}
Reads R (I.Array op) = Unit {0}
Reads R (I.Control op) = Unit {0}
Reads R (I.Jump jump place) = Unit {0}
Reads R (I.ConstantScalar w) = R w
Reads R (I.ConstantVector count first) = Unit {0}
Reads R (I.Call arguments alternate number) = Unit {0}
Reads R (I.Index rank) = Unit {0}

-- a table changes none of them
pub reads-under : (R : ℕ → Type 0) (table : List ℕ) (i : Instruction) → Reads R i → Reads R (under_table table i)
reads-under R table (I.Load a) h = h
reads-under R table (I.ShortConstant negative magnitude) h = h
reads-under R table (I.Scalar op) h = h
reads-under R table (I.Memory op a) h = h
reads-under R table (I.Stack op) h = h
reads-under R table (I.Array op) h = h
reads-under R table (I.Control op) h = h
reads-under R table (I.Jump jump place) h = h
reads-under R table (I.ConstantScalar w) h = h
reads-under R table (I.ConstantVector count first) h = h
reads-under R table (I.Call arguments alternate number) h = h
reads-under R table (I.Index rank) h = h

abbrev pub Decodes : (ℕ → Type 0) → Result Decoded Trap → Type 0
Decodes R (Ok d) = Reads R d.instruction
Decodes R (Err t) = listed t.class t.number ≡ true

abbrev AddressListed : Result (Address × Cursor) Trap → Type 0
AddressListed (Ok found) = Unit {0}
AddressListed (Err t) = listed t.class t.number ≡ true

-- ---- what is done with what is read

module _ {V A : Type 0} (P : A → Type 0) (outside : A) (h : P outside) where
  read_told : (x : Option (V × Cursor)) (f : V → Cursor → A) → ((v : V) (next : Cursor) → x ≡ Some (v, next) → P (f v next)) → P (with_read x outside f)
  read_told (Some (v, next)) f k = k v next refl
  read_told None f k = h

  read : (x : Option (V × Cursor)) (f : V → Cursor → A) → ((v : V) (next : Cursor) → P (f v next)) → P (with_read x outside f)
  read x f k = read_told x f (λ v next e. k v next)

-- ---- addresses

module _ (code : List ℕ) where
  in-listed : (c : Cursor) (first : ℕ) (family : Family) → AddressListed (address_in code c first family)
  unfolding address_in listed
  in-listed c first ShortLocal = tt
  in-listed c first LongLocal = read AddressListed _ refl (fetch_byte code c) _ (λ second next. tt)
  in-listed c first LongGlobal = read AddressListed _ refl (fetch_byte code c) _ (λ second next. tt)
  in-listed c first ShortConst = refl
  in-listed c first GenScalar = refl
  in-listed c first MemRef = refl
  in-listed c first Etc = refl
  in-listed c first Index = refl
  in-listed c first Unassigned = refl

  at_listed : (c : Cursor) → AddressListed (address_at code c)
  unfolding address_at listed
  at_listed c = read AddressListed _ refl (fetch_byte code c) _ (λ first next. in-listed next first (family_of first))

-- ---- every instruction

module _ (code : List ℕ) (R : ℕ → Type 0) (reads : (c : Cursor) (w : ℕ) (next : Cursor) → fetch_word code c ≡ Some (w, next) → R w) where
  chosen : (test : Bool) (x y : Result Decoded Trap) → Decodes R x → Decodes R y → Decodes R (cond test x y)
  chosen true x y h k = h
  chosen false x y h k = k

  read-address : (x : Result (Address × Cursor) Trap) (f : Address → Cursor → Result Decoded Trap) → AddressListed x → ((a : Address) (next : Cursor) → Decodes R (f a next))
      → Decodes R (with_address x Err f)
  read-address (Ok (a, next)) f h k = k a next
  read-address (Err t) f h k = h

  load-decodes : (c : Cursor) (first : ℕ) (family : Family) → Decodes R (load_at code c first family)
  unfolding load_at
  load-decodes c first family = read-address (address_in code c first family) _ (in-listed code c first family) (λ a next. tt)

  scalar-decodes : (c : Cursor) (o : Option Operator) → Decodes R (scalar_at o c)
  unfolding listed
  scalar-decodes c (Some o) = tt
  scalar-decodes c None = refl

  memory-decodes : (c : Cursor) (o : Option MemoryOperation) → Decodes R (memory_at code c o)
  unfolding memory_at listed
  memory-decodes c (Some o) = read-address (address_at code c) _ (at_listed code c) (λ a next. tt)
  memory-decodes c None = refl

  etc-decodes : (c : Cursor) (o : Option EtcSuboperation) → Decodes R (etc_at code c o)
  unfolding etc_at jump_at constant_scalar_at constant_vector_at call_at listed
  etc-decodes c (Some (E.Stack o)) = tt
  etc-decodes c (Some (E.Array o)) = tt
  etc-decodes c (Some (E.Control o)) = tt
  etc-decodes c (Some (E.Jump jump)) = read (Decodes R) _ refl (fetch_half code c) _ (λ v next. tt)
  etc-decodes c (Some E.ConstantScalar) = read_told (Decodes R) _ refl (fetch_word code c) _ (reads c)
  etc-decodes c (Some E.ConstantVector) =
      read (Decodes R) _ refl (fetch_byte code c) _ (λ count next.
      read (Decodes R) _ refl (fetch_words code next count) _ (λ first after. tt))
  etc-decodes c (Some E.Call) = read (Decodes R) _ refl (fetch_half code c) _ (λ v next. tt)
  etc-decodes c None = refl

  family-decodes : (c : Cursor) (first : ℕ) (family : Family) → Decodes R (family_at code c first family)
  unfolding family_at short_constant_at listed
  family-decodes c first ShortLocal = load-decodes c first ShortLocal
  family-decodes c first ShortConst = read (Decodes R) _ refl (fetch_byte code c) _ (λ second next. tt)
  family-decodes c first GenScalar = scalar-decodes c (operator_of (first % 2 ^ 5))
  family-decodes c first MemRef = memory-decodes c (memory_of (first % 2 ^ 5))
  family-decodes c first Etc = etc-decodes c (etc_of (first % 2 ^ 5))
  family-decodes c first LongLocal = load-decodes c first LongLocal
  family-decodes c first LongGlobal = load-decodes c first LongGlobal
  family-decodes c first Index = tt
  family-decodes c first Unassigned = refl

  pub instruction-decodes : (place : ℕ) → Decodes R (instruction_at code place)
  unfolding instruction_at listed
  instruction-decodes place =
      chosen (ltb place code_start) _ _ refl
      (read (Decodes R) _ refl (fetch_byte code (cursor_at place)) _ (λ first next. family-decodes next first (family_of first)))
