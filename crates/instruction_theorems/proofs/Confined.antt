-- Decoding looks at no byte outside the function's code: codes that agree from byte 8 on decode alike.
use mathlib.Core.Path.{◌≡◌, refl, sym, ◌∙◌}
use mathlib.Core.Bool.{Bool, true, false, cond}
use mathlib.Core.List.{List}
use Prim.Native.Nat.{ℕ, ◌+◌, ◌*◌, ◌≤◌, ◌<◌}
use native.Mathlib.Omega.{arith}
use lib.ListN.{length, get_or, drop, length-drop}
use lib.Seq.{length-take-le, get_or-take, get_or-drop}
use lib.Dec.{ltb}
use borrow.Author.Tests.{ltb-true, ltb-false}
use Rattle.std.proofs.Common.{Option, Some, None, Err}
use Rattle.trap.specs.Trap.{trap_of}
use Rattle.procedure.specs.declared.header.Block.{Block}
use Rattle.procedure.specs.Headers.{code_end, code_of}
use Rattle.instruction.specs.declared.MemoryOperation.{MemoryOperation}
use Rattle.instruction.specs.declared.table.EtcSuboperation.{EtcSuboperation}
use Rattle.instruction.specs.declared.table.EtcSuboperation.TheVariants as E
use Rattle.instruction.specs.declared.family.Family.{Family}
use Rattle.instruction.specs.declared.family.Family.TheVariants.{ShortLocal, ShortConst, GenScalar, MemRef, Etc, LongLocal, LongGlobal, Index, Unassigned}
use Rattle.instruction.specs.declared.cursor.Cursor.{Cursor}
use Rattle.instruction.specs.Families.{family_of}
use Rattle.instruction.specs.Reading.{cursor_at, fetch_byte, fetch_half, fetch_word, fetch_words, with_read}
use Rattle.instruction.specs.Variables.{address_in, address_at}
use Rattle.instruction.specs.Decoding.{load_at, short_constant_at, memory_at, constant_scalar_at, constant_vector_at, jump_at, call_at, etc_at, family_at, instruction_at}
use Rattle.instruction_theorems.specs.Theorems.{SameCode}
use Rattle.instruction.proofs.Cases.{byte-cases, half-cases}

-- Two codes of one length that agree from byte 8 on.
pub record Alike (a b : List ℕ) : Type 0 where
  pub long : length a ≡ length b
  pub bytes : (i : ℕ) → 8 ≤ i → i < length a → get_or a i 0 ≡ get_or b i 0

module _ (a b : List ℕ) (same : Alike a b) where
  byte-alike : (c : Cursor) → 8 ≤ c.at → fetch_byte a c ≡ fetch_byte b c
  unfolding fetch_byte
  byte-alike c h = rw (sym same.long) (on (ltb c.at (length a)) refl)
    where
      on : (t : Bool) → ltb c.at (length a) ≡ t
          → cond {A = Option (ℕ × Cursor)} t (Some (get_or a c.at 0, cursor_at (c.at + 1))) None ≡ cond {A = Option (ℕ × Cursor)} t (Some (get_or b c.at 0, cursor_at (c.at + 1))) None
      on true e = rw (same.bytes c.at h (ltb-true _ _ e))
      on false e = refl

  -- What follows a byte may read on.
  after-byte : {A : Type 0} (c : Cursor) → 8 ≤ c.at → (outside : A) (f g : ℕ → Cursor → A)
      → ((v : ℕ) → f v (cursor_at (c.at + 1)) ≡ g v (cursor_at (c.at + 1)))
      → with_read (fetch_byte a c) outside f ≡ with_read (fetch_byte b c) outside g
  after-byte c h outside f g each =
      rw (byte-alike c h)
      (byte-cases b c (λ (x : Option (ℕ × Cursor)). with_read x outside f ≡ with_read x outside g) (λ i. refl) (λ i. each (get_or b c.at 0)))

  half-alike : (c : Cursor) → 8 ≤ c.at → fetch_half a c ≡ fetch_half b c
  unfolding fetch_half
  half-alike c h = after-byte c h _ _ _ (λ v. rw (byte-alike (cursor_at (c.at + 1)) (omega arith)))

  after-half : {A : Type 0} (c : Cursor) → 8 ≤ c.at → (outside : A) (f g : ℕ → Cursor → A)
      → ((v : ℕ) → f v (cursor_at (c.at + 1 + 1)) ≡ g v (cursor_at (c.at + 1 + 1)))
      → with_read (fetch_half a c) outside f ≡ with_read (fetch_half b c) outside g
  after-half c h outside f g each =
      rw (half-alike c h)
      (half-cases b c (λ (x : Option (ℕ × Cursor)). with_read x outside f ≡ with_read x outside g) (λ i. refl) (λ v i. each v))

  word-alike : (c : Cursor) → 8 ≤ c.at → fetch_word a c ≡ fetch_word b c
  unfolding fetch_word
  word-alike c h = after-half c h _ _ _ (λ v. rw (half-alike (cursor_at (c.at + 1 + 1)) (omega arith)))

  words-alike : (c : Cursor) (count : ℕ) → fetch_words a c count ≡ fetch_words b c count
  unfolding fetch_words
  words-alike c count = rw same.long

  address-in-alike : (c : Cursor) → 8 ≤ c.at → (first : ℕ) (family : Family)
      → address_in a c first family ≡ address_in b c first family
  unfolding address_in
  address-in-alike c h first ShortLocal = refl
  address-in-alike c h first LongLocal = rw (byte-alike c h)
  address-in-alike c h first LongGlobal = rw (byte-alike c h)
  address-in-alike c h first ShortConst = refl
  address-in-alike c h first GenScalar = refl
  address-in-alike c h first MemRef = refl
  address-in-alike c h first Etc = refl
  address-in-alike c h first Index = refl
  address-in-alike c h first Unassigned = refl

  address-alike : (c : Cursor) → 8 ≤ c.at → address_at a c ≡ address_at b c
  unfolding address_at
  address-alike c h =
      after-byte c h _ _ _ (λ v. address-in-alike (cursor_at (c.at + 1)) (omega arith) v (family_of v))

  memory-alike : (c : Cursor) → 8 ≤ c.at → (sub : Option MemoryOperation) → memory_at a c sub ≡ memory_at b c sub
  unfolding memory_at
  memory-alike c h (Some o) = rw (address-alike c h)
  memory-alike c h None = refl

  vector-alike : (c : Cursor) → 8 ≤ c.at → constant_vector_at a c ≡ constant_vector_at b c
  unfolding constant_vector_at
  vector-alike c h = after-byte c h _ _ _ (λ v. rw (words-alike (cursor_at (c.at + 1)) v))

  etc-alike : (c : Cursor) → 8 ≤ c.at → (sub : Option EtcSuboperation) → etc_at a c sub ≡ etc_at b c sub
  unfolding etc_at jump_at constant_scalar_at call_at
  etc-alike c h (Some (E.Stack o)) = refl
  etc-alike c h (Some (E.Array o)) = refl
  etc-alike c h (Some (E.Control o)) = refl
  etc-alike c h (Some (E.Jump jump)) = rw (half-alike c h)
  etc-alike c h (Some E.ConstantScalar) = rw (word-alike c h)
  etc-alike c h (Some E.ConstantVector) = vector-alike c h
  etc-alike c h (Some E.Call) = rw (half-alike c h)
  etc-alike c h None = refl

  family-alike : (c : Cursor) → 8 ≤ c.at → (first : ℕ) (family : Family)
      → family_at a c first family ≡ family_at b c first family
  unfolding family_at load_at short_constant_at
  family-alike c h first ShortLocal = rw (address-in-alike c h first ShortLocal)
  family-alike c h first ShortConst = rw (byte-alike c h)
  family-alike c h first GenScalar = refl
  family-alike c h first MemRef = memory-alike c h _
  family-alike c h first Etc = etc-alike c h _
  family-alike c h first LongLocal = rw (address-in-alike c h first LongLocal)
  family-alike c h first LongGlobal = rw (address-in-alike c h first LongGlobal)
  family-alike c h first Index = refl
  family-alike c h first Unassigned = refl

  pub instruction-alike : (place : ℕ) → instruction_at a place ≡ instruction_at b place
  unfolding instruction_at
  instruction-alike place = on (ltb place 8) refl
    where
      on : (t : Bool) → ltb place 8 ≡ t
          → cond t (Err (trap_of 3 1)) (with_read (fetch_byte a (cursor_at place)) (Err (trap_of 3 1)) (λ first next. family_at a next first (family_of first)))
          ≡ cond t (Err (trap_of 3 1)) (with_read (fetch_byte b (cursor_at place)) (Err (trap_of 3 1)) (λ first next. family_at b next first (family_of first)))
      on true e = refl
      on false e =
          after-byte (cursor_at place) (ltb-false _ _ e) _ _ _
          (λ v. family-alike (cursor_at (place + 1)) (omega (arith, ltb-false place 8 e)) v (family_of v))

-- The code of a block that lies in the segment.
module _ (p : List ℕ) (block : Block) (fits : 4 * block.start + code_end block.header ≤ length p) where
  code-length : length (code_of p block) ≡ code_end block.header
  unfolding code_of
  code-length =
      length-take-le (code_end block.header) (drop (4 * block.start) p) (simp length-drop (omega arith))

  code-byte : (i : ℕ) → i < code_end block.header → get_or (code_of p block) i 0 ≡ get_or p (4 * block.start + i) 0
  unfolding code_of
  code-byte i h = rw (get_or-take (code_end block.header) (drop (4 * block.start) p) i 0 h, get_or-drop)

pub confined : (block : Block) (p q : List ℕ) → SameCode block p q → (place : ℕ)
    → instruction_at (code_of p block) place ≡ instruction_at (code_of q block) place
confined block p q same =
    instruction-alike (code_of p block) (code_of q block)
    record {
      long = code-length p block same.first_holds ∙ sym (code-length q block same.second_holds);
      bytes =
          λ i low high.
          let h : i < code_end block.header = rw (code-length p block same.first_holds) at high in
          code-byte p block same.first_holds i h ∙ same.alike i low h ∙ sym (code-byte q block same.second_holds i h);
    }
