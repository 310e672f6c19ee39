-- The bytes of every instruction decode back to it.
use mathlib.Core.Path.{◌≡◌, refl, ◌∙◌, ap}
use mathlib.Core.Bool.{Bool, true, false}
use mathlib.Core.List.{List, [], ◌∷◌, ◌++◌}
use Prim.Native.Nat.{ℕ, suc, ◌+◌, ◌-◌, ◌*◌, ◌/◌, ◌%◌, ◌^◌, ◌≤◌, ◌<◌}
use native.Mathlib.Omega.{arith}
use lib.ListN.{length, length-append, length-replicate}
use lib.Dec.{leb}
use borrow.Author.Tests.{leb-true, le-ltb}
use Rattle.std.proofs.Common.{Ok}
use Rattle.descriptor.specs.declared.address.CodeAddress.{CodeAddress}
use Rattle.descriptor.specs.Kinds.{bit}
use Rattle.operator.specs.Table.{operator_number}
use Rattle.instruction.specs.declared.Address.{Address}
use Rattle.instruction.specs.declared.Address.TheVariants.{Local, Global}
use Rattle.instruction.specs.declared.MemoryOperation.{MemoryOperation}
use Rattle.instruction.specs.declared.Jump.{Jump}
use Rattle.instruction.specs.declared.Instruction.{Instruction}
use Rattle.instruction.specs.declared.Instruction.TheVariants as I
use Rattle.instruction.specs.declared.family.Family.{Family}
use Rattle.instruction.specs.declared.family.Family.TheVariants.{ShortLocal, LongLocal, LongGlobal}
use Rattle.instruction.specs.Families.{family_of}
use Rattle.instruction.specs.Reading.{boundary, code_address, cursor_at, fetch_words}
use Rattle.instruction.specs.Variables.{address_in, address_at}
use Rattle.instruction.specs.Decoding.{done, decoded_to, load_at, short_constant_at, memory_at, constant_scalar_at, constant_vector_at, jump_at, call_at, family_at, instruction_at}
use Rattle.instruction_theorems.specs.Encoder.{memory_number, stack_number, array_number, control_number, jump_number, half_bytes, word_bytes, words_bytes, local_bytes, address_bytes, padding, encode, AddressFits, MemoryFits, Encodable}
use Rattle.instruction_theorems.specs.Theorems.{Stand}
use Rattle.instruction_theorems.proofs.Stands.{stand-length, byte-here, first-here, half-here, word-here}
use Rattle.instruction.proofs.Ranges.{is-short-local, is-short-const, is-long-local, is-long-global}
use Rattle.instruction_theorems.proofs.Forms.{scalar-form, stack-form, array-form, control-form, jump-form, word-form, vector-form, call-form, memory-form, index-form, joined, joined_word, bit-back}

-- The place of an instruction's end, as a code address.
ended : (i : Instruction) (m n : ℕ) → m ≡ n → n < 2 ^ 32 → decoded_to i (cursor_at m) ≡ done i (code_address n)
ended i m n e h = let f : m % 2 ^ 32 ≡ n = omega arith in rw f

-- An address that stands in the code: its first byte, the family of that byte, and what is read.
record AddressRead (code : List ℕ) (at : ℕ) (a : Address) (size : ℕ) : Type 0 where
  first : ℕ
  others : List ℕ
  family : Family
  stands : Stand code at (first ∷ others)
  is : family_of first ≡ family
  loads : family_at code (cursor_at (at + 1)) first family ≡ load_at code (cursor_at (at + 1)) first family
  reads : address_in code (cursor_at (at + 1)) first family ≡ Ok (a, cursor_at (at + size))

module _ (code : List ℕ) (at : ℕ) where
  short-read : (below : ℕ) → 1 ≤ below → below ≤ 64 → Stand code at ((64 - below) ∷ []) → AddressRead code at (Local below) 1
  unfolding address_in family_at
  short-read below l h s =
      let e : 64 - (64 - below) % 2 ^ 6 ≡ below = omega arith in
      record {
        first = 64 - below;
        others = [];
        family = ShortLocal;
        stands = s;
        is = is-short-local (64 - below) (omega arith);
        loads = refl;
        reads = rw e;
      }

  -- The twelve bits of a long form.
  local-read : (v below : ℕ) → 0xC000 ≤ v → v < 0xD000 → 4096 - v % 2 ^ 12 ≡ below
      → Stand code at (half_bytes v) → AddressRead code at (Local below) 2
  unfolding address_in family_at
  local-read v below l h e s =
      let n : at + 1 + 1 ≡ at + 2 = omega arith in
      record {
        first = v / 2 ^ 8;
        others = (v % 2 ^ 8) ∷ [];
        family = LongLocal;
        stands = s;
        is = is-long-local (v / 2 ^ 8) (omega arith) (omega arith);
        loads = refl;
        reads = simp (byte-here code (at + 1) (v % 2 ^ 8) [] s.2, joined v, e, n);
      }

  global-read : (v a : ℕ) → 0xD000 ≤ v → v < 0xE000 → v % 2 ^ 12 ≡ a
      → Stand code at (half_bytes v) → AddressRead code at (Global (record { 0 = a })) 2
  unfolding address_in family_at
  global-read v a l h e s =
      let n : at + 1 + 1 ≡ at + 2 = omega arith in
      record {
        first = v / 2 ^ 8;
        others = (v % 2 ^ 8) ∷ [];
        family = LongGlobal;
        stands = s;
        is = is-long-global (v / 2 ^ 8) (omega arith) (omega arith);
        loads = refl;
        reads = simp (byte-here code (at + 1) (v % 2 ^ 8) [] s.2, joined v, e, n);
      }

  address_read : (a : Address) → AddressFits a → Stand code at (address_bytes a) → AddressRead code at a (length (address_bytes a))
  address_read (Local below) fits s = on (leb below 64) refl s
    where
      on : (t : Bool) → leb below 64 ≡ t → Stand code at (local_bytes below t)
          → AddressRead code at (Local below) (length (local_bytes below t))
      on true e s₁ = short-read below fits.0 (leb-true below 64 e) s₁
      on false e s₁ =
          local-read (0xC000 + (4096 - below)) below (omega arith) (omega (arith, fits.0)) (omega (arith, fits.0, fits.1)) s₁
  address_read (Global a) fits s = global-read (0xD000 + a.0) a.0 (omega arith) (omega (arith, fits)) (omega (arith, fits)) s

  module _ (a : Address) (size : ℕ) (r : AddressRead code at a size) where
    load-back : 8 ≤ at → at + size < 2 ^ 32 → instruction_at code at ≡ done (I.Load a) (code_address (at + size))
    unfolding load_at
    load-back low h =
        first-here code at low r.first r.others r.stands
        ∙ (ap (λ (f : Family). family_at code (cursor_at (at + 1)) r.first f) r.is
        ∙ (r.loads ∙ (rw r.reads (ended (I.Load a) (at + size) (at + size) refl h))))

    address-back : address_at code (cursor_at at) ≡ Ok (a, cursor_at (at + size))
    unfolding address_at
    address-back = rw (byte-here code at r.first r.others r.stands, r.is, r.reads)

-- The words of a CONSTANT_VECTOR take four bytes each.
words-length : (words : List ℕ) → length (words_bytes words) ≡ 4 * length words
words-length [] = refl
words-length (w ∷ words) = let e : length (words_bytes words) ≡ 4 * length words = words-length words in omega arith

vector-length : (at : ℕ) (words : List ℕ) → length (padding at ++ words_bytes words) ≡ boundary at - at + 4 * length words
vector-length at words = rw (length-append (padding at) (words_bytes words), length-replicate {A = ℕ} (boundary at - at) 0, words-length words)

module _ (code : List ℕ) (short : length code < 2 ^ 32) (at : ℕ) (low : 8 ≤ at) where
  one_byte : (i : Instruction) (b : ℕ) → family_at code (cursor_at (at + 1)) b (family_of b) ≡ decoded_to i (cursor_at (at + 1))
      → Stand code at (b ∷ []) → instruction_at code at ≡ done i (code_address (at + 1))
  one_byte i b form s = first-here code at low b [] s ∙ (form ∙ ended i (at + 1) (at + 1) refl (omega (arith, s.0)))

  constant-back : (negative : Bool) (magnitude v : ℕ) → magnitude < 4096 → v ≡ 0x4000 + bit negative * 2 ^ 12 + magnitude
      → bit negative ≤ 1 → Stand code at (half_bytes v)
      → instruction_at code at ≡ done (I.ShortConstant negative magnitude) (code_address (at + 2))
  unfolding family_at short_constant_at
  constant-back negative magnitude v small e one s =
      first-here code at low (v / 2 ^ 8) ((v % 2 ^ 8) ∷ []) s
      ∙ rw (is-short-const (v / 2 ^ 8) (omega arith) (omega arith))
      (simp (byte-here code (at + 1) (v % 2 ^ 8) [] s.2, joined v, bit-back negative (v / 2 ^ 12 % 2) (omega arith), m)
      (ended (I.ShortConstant negative magnitude) (at + 1 + 1) (at + 2) (omega arith) (omega (arith, s.2.0))))
    where
      m : v % 2 ^ 12 ≡ magnitude
      m = omega arith

  jump_back : (jump : Jump) (to : CodeAddress) → Stand code at ((0xA0 + jump_number jump) ∷ half_bytes to.0)
      → instruction_at code at ≡ done (I.Jump jump to) (code_address (at + 3))
  unfolding jump_at
  jump_back jump to s =
      first-here code at low (0xA0 + jump_number jump) (half_bytes to.0) s
      ∙ (jump-form code (cursor_at (at + 1)) jump
      ∙ simp (half-here code (at + 1) (to.0 / 2 ^ 8) (to.0 % 2 ^ 8) [] s.2, joined to.0)
      (ended (I.Jump jump to) (at + 1 + 1 + 1) (at + 3) (omega arith) (omega (arith, s.2.2.0))))

  word_back : (w : ℕ) → Stand code at (0xAA ∷ word_bytes w)
      → instruction_at code at ≡ done (I.ConstantScalar w) (code_address (at + 5))
  unfolding constant_scalar_at
  word_back w s =
      first-here code at low 0xAA (word_bytes w) s
      ∙ (word-form code (cursor_at (at + 1))
      ∙ simp (word-here code (at + 1) (w / 2 ^ 24) (w / 2 ^ 16 % 2 ^ 8) (w / 2 ^ 8 % 2 ^ 8) (w % 2 ^ 8) [] s.2, joined_word w)
      (ended (I.ConstantScalar w) (at + 1 + 1 + 1 + 1 + 1) (at + 5) (omega arith) (omega (arith, s.2.2.2.2.0))))

  call_back : (arguments : ℕ) (P : Bool) (fn v : ℕ) → arguments < 16 → fn < 2048 → bit P ≤ 1
      → v ≡ arguments * 2 ^ 12 + bit P * 2 ^ 11 + fn → Stand code at (0xB1 ∷ half_bytes v)
      → instruction_at code at ≡ done (I.Call arguments P fn) (code_address (at + 3))
  unfolding call_at
  call_back arguments P fn v a f one e s =
      first-here code at low 0xB1 (half_bytes v) s
      ∙ (call-form code (cursor_at (at + 1))
      ∙ simp (half-here code (at + 1) (v / 2 ^ 8) (v % 2 ^ 8) [] s.2, joined v, n, bit-back P (v / 2 ^ 11 % 2) (omega arith), m)
      (ended (I.Call arguments P fn) (at + 1 + 1 + 1) (at + 3) (omega arith) (omega (arith, s.2.2.0))))
    where
      n : v / 2 ^ 12 ≡ arguments
      n = omega arith

      m : v % 2 ^ 11 ≡ fn
      m = omega arith

  memory-back : (o : MemoryOperation) (a : Address) → MemoryFits o → AddressFits a
      → Stand code at ((0x80 + memory_number o) ∷ address_bytes a)
      → instruction_at code at ≡ done (I.Memory o a) (code_address (at + suc (length (address_bytes a))))
  unfolding memory_at
  memory-back o a fits reach s =
      first-here code at low (0x80 + memory_number o) (address_bytes a) s
      ∙ (memory-form code (cursor_at (at + 1)) o fits
      ∙ rw (address-back code (at + 1) a (length (address_bytes a)) (address_read code (at + 1) a reach s.2))
      (ended (I.Memory o a) (at + 1 + length (address_bytes a)) (at + suc (length (address_bytes a))) (omega arith)
      (omega (arith, stand-length code (at + 1) (address_bytes a) s.2))))

  vector-back : (count : ℕ) (words : List ℕ) → count ≡ length words
      → Stand code at (0xAB ∷ count ∷ (padding (at + 2) ++ words_bytes words))
      → instruction_at code at
      ≡ done (I.ConstantVector count (code_address (boundary (at + 2)))) (code_address (at + suc (suc (length (padding (at + 2) ++ words_bytes words)))))
  unfolding constant_vector_at fetch_words
  vector-back count words e s =
      let all : at + 1 + 1 + length (padding (at + 2) ++ words_bytes words) ≤ length code =
      stand-length code (at + 1 + 1) (padding (at + 2) ++ words_bytes words) s.2.2 in
      let size : length (padding (at + 2) ++ words_bytes words) ≡ boundary (at + 2) - (at + 2) + 4 * length words = vector-length (at + 2) words in
      let two : at + 1 + 1 ≡ at + 2 = omega arith in
      let first : boundary (at + 2) % 2 ^ 32 ≡ boundary (at + 2) = omega arith in
      first-here code at low 0xAB (count ∷ (padding (at + 2) ++ words_bytes words)) s
      ∙ (vector-form code (cursor_at (at + 1))
      ∙ simp (byte-here code (at + 1) count (padding (at + 2) ++ words_bytes words) s.2, two, le-ltb (length code) (boundary (at + 2) + 4 * count) (omega arith), first)
      (ended (I.ConstantVector count (code_address (boundary (at + 2)))) (boundary (at + 2) + 4 * count)
      (at + suc (suc (length (padding (at + 2) ++ words_bytes words)))) (omega arith) (omega arith)))

bit-small : (t : Bool) → bit t ≤ 1
bit-small true = omega arith
bit-small false = omega arith

pub encoded : (code words : List ℕ) (place : ℕ) (i : Instruction) → length code < 2 ^ 32 → 8 ≤ place
    → Encodable place words i → Stand code place (encode place words i)
    → instruction_at code place ≡ done i (code_address (place + length (encode place words i)))
unfolding encode Encodable
encoded code words place (I.Load a) short low fits s =
    load-back code place a (length (address_bytes a)) (address_read code place a fits s) low
    (omega (arith, stand-length code place (address_bytes a) s))
encoded code words place (I.ShortConstant negative magnitude) short low fits s =
    constant-back code short place low negative magnitude (0x4000 + bit negative * 2 ^ 12 + magnitude) fits refl (bit-small negative) s
encoded code words place (I.Scalar o) short low fits s =
    one_byte code short place low (I.Scalar o) (0x60 + operator_number o) (scalar-form code (cursor_at (place + 1)) o) s
encoded code words place (I.Memory o a) short low fits s = memory-back code short place low o a fits.0 fits.1 s
encoded code words place (I.Stack o) short low fits s =
    one_byte code short place low (I.Stack o) (0xA0 + stack_number o) (stack-form code (cursor_at (place + 1)) o) s
encoded code words place (I.Array o) short low fits s =
    one_byte code short place low (I.Array o) (0xA0 + array_number o) (array-form code (cursor_at (place + 1)) o) s
encoded code words place (I.Control o) short low fits s =
    one_byte code short place low (I.Control o) (0xA0 + control_number o) (control-form code (cursor_at (place + 1)) o) s
encoded code words place (I.Jump jump to) short low fits s = jump_back code short place low jump to s
encoded code words place (I.ConstantScalar w) short low fits s = word_back code short place low w s
encoded code words place (I.ConstantVector count first) short low fits s =
    rw fits.2 (vector-back code short place low count words fits.0 s)
encoded code words place (I.Call arguments P fn) short low fits s =
    call_back code short place low arguments P fn (arguments * 2 ^ 12 + bit P * 2 ^ 11 + fn) fits.0 fits.1 (bit-small P) refl s
encoded code words place (I.Index rank) short low fits s =
    one_byte code short place low (I.Index rank) (0xE0 + rank) (index-form code (cursor_at (place + 1)) rank fits) s
