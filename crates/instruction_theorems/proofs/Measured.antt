-- The length that a first byte says is that of whatever decoding gives at its place; so the place after an instruction lies past its
-- first byte and at most at the end of the code.
use mathlib.Core.Path.{◌≡◌, refl}
use mathlib.Core.Bool.{Bool, true, false, cond}
use mathlib.Core.List.{List}
use Prim.Native.Nat.{ℕ, ◌+◌, ◌*◌, ◌%◌, ◌^◌, ◌≤◌, ◌<◌}
use native.Mathlib.Omega.{arith}
use lib.ListN.{length, get_or}
use lib.Dec.{ltb}
use borrow.Author.Tests.{ltb-true, ltb-false, le-ltb, lt-ltb}
use Rattle.operator.specs.Table.{operator_of}
use Rattle.std.proofs.Common.{Option, Some, None, Result, Ok, Err}
use Rattle.trap.specs.declared.Trap.{Trap}
use Rattle.trap.specs.Trap.{trap_of}
use Rattle.operator.specs.declared.Operator.{Operator}
use Rattle.instruction.specs.declared.Address.{Address}
use Rattle.instruction.specs.declared.MemoryOperation.{MemoryOperation}
use Rattle.instruction.specs.declared.Instruction.{Instruction}
use Rattle.instruction.specs.declared.Instruction.TheVariants as I
use Rattle.instruction.specs.declared.Decoded.{Decoded}
use Rattle.instruction.specs.declared.table.EtcSuboperation.{EtcSuboperation}
use Rattle.instruction.specs.declared.table.EtcSuboperation.TheVariants as E
use Rattle.instruction.specs.declared.family.Family.{Family}
use Rattle.instruction.specs.declared.family.Family.TheVariants.{ShortLocal, ShortConst, GenScalar, MemRef, Etc, LongLocal, LongGlobal, Index, Unassigned}
use Rattle.instruction.specs.declared.length.Length.{Length}
use Rattle.instruction.specs.declared.length.Length.TheVariants.{Fixed, ByAddress, ByCount}
use Rattle.instruction.specs.declared.cursor.Cursor.{Cursor}
use Rattle.instruction.specs.Families.{family_of}
use Rattle.instruction.specs.Reading.{boundary, code_address, cursor_at, place_of, fetch_byte, fetch_half, fetch_word, fetch_words, with_read}
use Rattle.instruction.specs.Variables.{long_local, long_global, address_in, address_at, with_address}
use Rattle.instruction.specs.Tables.{memory_of, etc_of}
use Rattle.instruction.specs.Lengths.{scalar_length, memory_length, etc_length, length_in, length_by, fixed_bytes}
use Rattle.instruction.specs.Decoding.{decoded_to, short_constant_of, call_of, load_at, short_constant_at, scalar_at, memory_at, constant_scalar_at, constant_vector_at, jump_at, call_at, etc_at, family_at, instruction_at}
use Rattle.instruction.proofs.Cases.{byte-cases, half-cases, word-cases, words-cases}
use Rattle.instruction.proofs.Lengths.{AddressEnds, address-ends}
use Rattle.instruction_theorems.specs.FirstBytes.{Ends, EndsIfAny, HasLength}
use Rattle.instruction_theorems.specs.Theorems.{Next}

-- The first byte stands at a place of the code, the cursor after it.
module _ (code : List ℕ) (short : length code < 2 ^ 32) (place : ℕ) (low : 8 ≤ place) (inside : place < length code) where
  abbrev after : Cursor
  after = cursor_at (place + 1)

  -- What is decoded has the length that the first byte says, and ends past that byte.
  abbrev Reached : Length → Result Decoded Trap → Type 0
  Reached bytes d = HasLength code place bytes d × Next place code d

  ended : (i : Instruction) (c : Cursor) (end : ℕ) → c.at ≡ end → end ≤ length code → Ends code end (decoded_to i c)
  ended i c end e h =
      let same : c.at % 2 ^ 32 ≡ end = omega arith in
      ((λ j. code_address (same j)), h)

  past : (i : Instruction) (c : Cursor) → place < c.at → c.at ≤ length code → Next place code (decoded_to i c)
  past i c l h =
      let same : c.at % 2 ^ 32 ≡ c.at = omega arith in
      (low, omega arith, omega arith)

  -- So many bytes, and all of them in the code, or not.
  whole : (bytes : ℕ) (i : Instruction) (c : Cursor) → c.at ≡ place + bytes → 1 ≤ bytes → place + bytes ≤ length code
      → Reached (Fixed bytes) (decoded_to i c)
  whole bytes i c e l h = (((λ fits. ended i c (place + bytes) e h), (λ cut. absurd (omega arith))), past i c (omega arith) (omega arith))

  cut_short : (bytes : ℕ) → length code < place + bytes → Reached (Fixed bytes) (Err (trap_of 3 1))
  cut_short bytes h = (((λ fits. absurd (omega arith)), (λ cut. refl)), tt)

  one_byte : (i : Instruction) → Reached (Fixed 1) (decoded_to i after)
  one_byte i = whole 1 i after refl (omega arith) (omega arith)

  -- A byte, a half or a word after the first byte.
  reached-byte : (f : ℕ → Instruction) → Reached (Fixed 2) (with_read (fetch_byte code after) (Err (trap_of 3 1)) (λ v c. decoded_to (f v) c))
  reached-byte f =
      byte-cases code after
      (λ (x : Option (ℕ × Cursor)). Reached (Fixed 2) (with_read x (Err (trap_of 3 1)) (λ v c. decoded_to (f v) c)))
      (λ h. cut_short 2 (omega arith))
      (λ h. whole 2 (f (get_or code (place + 1) 0)) (cursor_at (place + 1 + 1)) (omega arith) (omega arith) (omega arith))

  reached-half : (f : ℕ → Instruction) → Reached (Fixed 3) (with_read (fetch_half code after) (Err (trap_of 3 1)) (λ v c. decoded_to (f v) c))
  reached-half f =
      half-cases code after
      (λ (x : Option (ℕ × Cursor)). Reached (Fixed 3) (with_read x (Err (trap_of 3 1)) (λ v c. decoded_to (f v) c)))
      (λ h. cut_short 3 (omega arith))
      (λ v h. whole 3 (f v) (cursor_at (place + 1 + 1 + 1)) (omega arith) (omega arith) (omega arith))

  reached-word : (f : ℕ → Instruction) → Reached (Fixed 5) (with_read (fetch_word code after) (Err (trap_of 3 1)) (λ v c. decoded_to (f v) c))
  reached-word f =
      word-cases code after
      (λ (x : Option (ℕ × Cursor)). Reached (Fixed 5) (with_read x (Err (trap_of 3 1)) (λ v c. decoded_to (f v) c)))
      (λ h. cut_short 5 (omega arith))
      (λ w h. whole 5 (f w) (cursor_at (place + 1 + 1 + 1 + 1 + 1)) (omega arith) (omega arith) (omega arith))

  -- The three loads, by an address of two bytes or of one.
  reached-long : (first : ℕ) (address : ℕ → Address)
      → Reached (Fixed 2) (with_address (with_read (fetch_byte code after) (Err (trap_of 3 1)) (λ v c. Ok (address (first * 2 ^ 8 + v), c))) Err (λ a c. decoded_to (I.Load a) c))
  reached-long first address =
      byte-cases code after
      (λ (x : Option (ℕ × Cursor)). Reached (Fixed 2) (with_address (with_read x (Err (trap_of 3 1)) (λ v c. Ok (address (first * 2 ^ 8 + v), c))) Err (λ a c. decoded_to (I.Load a) c)))
      (λ h. cut_short 2 (omega arith))
      (λ h. whole 2 (I.Load (address (first * 2 ^ 8 + get_or code (place + 1) 0))) (cursor_at (place + 1 + 1)) (omega arith) (omega arith) (omega arith))

  -- A MEMREF: its address ends where the load of that form would.
  if-addressed : (o : MemoryOperation) (bytes : ℕ) (x : Result (Address × Cursor) Trap) → AddressEnds code (place + 1 + 1) (place + 1 + 1 + bytes) x → place + 1 < length code
      → EndsIfAny code (place + 1 + bytes) (with_address x Err (λ a c. decoded_to (I.Memory o a) c)) × Next place code (with_address x Err (λ a c. decoded_to (I.Memory o a) c))
  if-addressed o bytes (Ok (a, c)) ends h =
      let within : c.at ≤ length code = ends.1 (omega arith) in (
        ended (I.Memory o a) c (place + 1 + bytes) (omega (arith, ends.0)) (omega (arith, ends.0, within)),
        past (I.Memory o a) c (omega (arith, ends.0)) within,
      )
  if-addressed o bytes (Err trap) ends h = (tt, tt)

  reached-memory : (sub : Option MemoryOperation) → Reached (memory_length sub) (memory_at code after sub)
  unfolding memory_at address_at length_by
  reached-memory None = (tt, tt)
  reached-memory (Some o) =
      byte-cases code after
      (λ (x : Option (ℕ × Cursor)). Reached ByAddress (with_address (with_read x (Err (trap_of 3 1)) (λ v c. address_in code c v (family_of v))) Err (λ a c. decoded_to (I.Memory o a) c)))
      (λ h. (tt, tt))
      (λ h.
      if-addressed o (fixed_bytes (length_by second)) (address_in code (cursor_at (place + 1 + 1)) second (family_of second))
      (address-ends code (cursor_at (place + 1 + 1)) second (second % 2 ^ 5) (family_of second)) h)
    where
      second : ℕ
      second = get_or code (place + 1) 0

  reached-scalar : (sub : Option Operator) → Reached (scalar_length sub) (scalar_at sub after)
  reached-scalar (Some o) = one_byte (I.Scalar o)
  reached-scalar None = (tt, tt)

  reached-vector : Reached ByCount (constant_vector_at code after)
  unfolding constant_vector_at
  reached-vector =
      byte-cases code after
      (λ (x : Option (ℕ × Cursor)). Reached ByCount (with_read x (Err (trap_of 3 1)) counted))
      (λ h. (tt, tt))
      (λ h.
      words-cases code (cursor_at (place + 1 + 1)) count
      (λ (x : Option (Cursor × Cursor)). Reached ByCount (with_read x (Err (trap_of 3 1)) (taken count)))
      (tt, tt)
      (λ h₂. (ended vector end (boundary (place + 2) + 4 * count) (omega arith) (omega arith), past vector end (omega arith) h₂)))
    where
      count : ℕ
      count = get_or code (place + 1) 0

      vector : Instruction
      vector = I.ConstantVector count (place_of (cursor_at (boundary (place + 1 + 1))))

      end : Cursor
      end = cursor_at (boundary (place + 1 + 1) + 4 * count)

      taken : ℕ → Cursor → Cursor → Result Decoded Trap
      taken count first c = decoded_to (I.ConstantVector count (place_of first)) c

      counted : ℕ → Cursor → Result Decoded Trap
      counted count c = with_read (fetch_words code c count) (Err (trap_of 3 1)) (taken count)

  reached-etc : (sub : Option EtcSuboperation) → Reached (etc_length sub) (etc_at code after sub)
  unfolding etc_at jump_at constant_scalar_at call_at
  reached-etc (Some (E.Stack o)) = one_byte (I.Stack o)
  reached-etc (Some (E.Array o)) = one_byte (I.Array o)
  reached-etc (Some (E.Control o)) = one_byte (I.Control o)
  reached-etc (Some (E.Jump jump)) = reached-half (λ v. I.Jump jump (code_address v))
  reached-etc (Some E.ConstantScalar) = reached-word (λ w. I.ConstantScalar w)
  reached-etc (Some E.ConstantVector) = reached-vector
  reached-etc (Some E.Call) = reached-half call_of
  reached-etc None = (tt, tt)

  reached-family : (first : ℕ) (family : Family) → Reached (length_in family (first % 2 ^ 5)) (family_at code after first family)
  unfolding family_at load_at address_in short_constant_at
  reached-family first ShortLocal = one_byte _
  reached-family first ShortConst = reached-byte (λ v. short_constant_of (first * 2 ^ 8 + v))
  reached-family first GenScalar = reached-scalar (operator_of (first % 2 ^ 5))
  reached-family first MemRef = reached-memory (memory_of (first % 2 ^ 5))
  reached-family first Etc = reached-etc (etc_of (first % 2 ^ 5))
  reached-family first LongLocal = reached-long first long_local
  reached-family first LongGlobal = reached-long first long_global
  reached-family first Index = one_byte (I.Index (first % 2 ^ 4))
  reached-family first Unassigned = (tt, tt)

  reached : Reached (length_by (get_or code place 0)) (instruction_at code place)
  unfolding length_by instruction_at fetch_byte
  reached = simp (le-ltb place 8 low, lt-ltb place (length code) inside) (reached-family (get_or code place 0) (family_of (get_or code place 0)))

pub lengths : (code : List ℕ) → length code < 2 ^ 32 → (place : ℕ) → 8 ≤ place → place < length code
    → HasLength code place (length_by (get_or code place 0)) (instruction_at code place)
lengths code short place low inside = (reached code short place low inside).0

pub advances : (code : List ℕ) → length code < 2 ^ 32 → (place : ℕ) → Next place code (instruction_at code place)
unfolding instruction_at fetch_byte
advances code short place = on (ltb place 8) (ltb place (length code)) refl refl
  where
    on : (before inside : Bool) → ltb place 8 ≡ before → ltb place (length code) ≡ inside
        → Next place code (cond before (Err (trap_of 3 1)) (with_read (cond inside (Some (get_or code place 0, cursor_at (place + 1))) None) (Err (trap_of 3 1)) (λ first after. family_at code after first (family_of first))))
    on true inside e f = tt
    on false false e f = tt
    on false true e f = (reached-family code short place (ltb-false place 8 e) (ltb-true place (length code) f) (get_or code place 0) (family_of (get_or code place 0))).1
