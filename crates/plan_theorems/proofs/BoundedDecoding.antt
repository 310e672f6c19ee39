-- The words of code have 32 bits, and so have those of a decoded instruction.
use Prim.Native.Nat.{ℕ, zero, suc, ◌+◌, ◌*◌, ◌^◌, ◌<◌}
use mathlib.Core.Path.{subst}
use mathlib.Core.Bool.{Bool, true, false, cond}
use mathlib.Core.List.{List, [], ◌∷◌}
use native.Mathlib.Omega.{arith}
use lib.Dec.{ltb}
use lib.ListN.{take, drop, length}
use lib.Seq.{get_or-drop}
use Rattle.std.proofs.Common.{Option, Some, None, Result}
use Rattle.trap.specs.declared.Trap.{Trap}
use Rattle.procedure.specs.declared.header.Block.{Block}
use Rattle.procedure.specs.Bytes.{byte_at, word_at}
use Rattle.procedure.specs.Headers.{code_end, code_of}
use Rattle.procedure.specs.Directory.{selected}
use Rattle.instruction.specs.declared.Decoded.{Decoded}
use Rattle.instruction.specs.declared.cursor.Cursor.{Cursor}
use Rattle.instruction.specs.Reading.{cursor_at, fetch_byte, fetch_half, fetch_word, with_read}
use Rattle.instruction.specs.Decoding.{instruction_at}
use Rattle.segment.specs.Lent.{Words, Bytes}
use Rattle.manual.specs.Instructions.{Running, code_in, segment_of, words_from}
use Rattle.manual.proofs.Decoding.{Decodes, instruction-decodes}

-- ---- bytes

bytes_drop : (n : ℕ) (p : List ℕ) → Bytes p → Bytes (drop n p)
bytes_drop n p h i = rw get_or-drop (h (n + i))

bytes_take : (n : ℕ) (p : List ℕ) → Bytes p → Bytes (take n p)
bytes_take zero p h i = omega arith
bytes_take (suc n) [] h i = omega arith
bytes_take (suc n) (b ∷ p) h zero = h 0
bytes_take (suc n) (b ∷ p) h (suc i) = bytes_take n p (λ j. h (suc j)) i

bytes-code : (p : List ℕ) (b : Block) → Bytes p → Bytes (code_of p b)
unfolding code_of
bytes-code p b h = bytes_take (code_end b.header) (drop (4 * b.start) p) (bytes_drop (4 * b.start) p h)

bytes-selected : (selector : Bool) (regular alternate : List ℕ) → Bytes regular → Bytes alternate → Bytes (selected selector regular alternate)
bytes-selected true regular alternate h k = k
bytes-selected false regular alternate h k = h

pub code-bytes : (f : Running) → Bytes f.program.regular → Bytes f.program.alternate → Bytes (code_in f)
code-bytes f h k = bytes-code (segment_of f) f.block (bytes-selected f.selector f.program.regular f.program.alternate h k)

word-at : (code : List ℕ) → Bytes code → (i : ℕ) → word_at code i < 2 ^ 32
unfolding word_at
word-at code h i = omega (arith, h i, h (i + 1), h (i + 2), h (i + 3))

pub words-from : (n : ℕ) (code : List ℕ) → Bytes code → (place : ℕ) → Words (words_from n code place)
words-from zero code h place i = omega arith
words-from (suc n) code h place zero = word-at code h place
words-from (suc n) code h place (suc i) = words-from n code h (place + 4) i

-- ---- what is read of them

abbrev Below : ℕ → Option (ℕ × Cursor) → Type 0
Below bound (Some read) = read.0 < bound
Below bound None = Unit {0}

with_read_lem : {A : Type 0} (P : A → Type 0) (bound : ℕ) (x : Option (ℕ × Cursor)) (outside : A) (f : ℕ → Cursor → A) → Below bound x → P outside
    → ((v : ℕ) (next : Cursor) → v < bound → P (f v next)) → P (with_read x outside f)
with_read_lem P bound (Some (v, next)) outside f h k l = l v next h
with_read_lem P bound None outside f h k l = k

module _ (code : List ℕ) (h : Bytes code) where
  byte-below : (c : Cursor) → Below (2 ^ 8) (fetch_byte code c)
  unfolding fetch_byte
  byte-below c = go (ltb c.at (length code))
    where
      go : (b : Bool) → Below (2 ^ 8) (cond {A = Option (ℕ × Cursor)} b (Some (byte_at code c.at, cursor_at (c.at + 1))) None)
      go true = h c.at
      go false = tt

  half-below : (c : Cursor) → Below (2 ^ 16) (fetch_half code c)
  unfolding fetch_half
  half-below c =
      with_read_lem (Below (2 ^ 16)) (2 ^ 8) (fetch_byte code c) None _ (byte-below c) tt (λ high next k.
      with_read_lem (Below (2 ^ 16)) (2 ^ 8) (fetch_byte code next) None _ (byte-below next) tt (λ low after l. omega (arith, k, l)))

  word_below : (c : Cursor) → Below (2 ^ 32) (fetch_word code c)
  unfolding fetch_word
  word_below c =
      with_read_lem (Below (2 ^ 32)) (2 ^ 16) (fetch_half code c) None _ (half-below c) tt (λ high next k.
      with_read_lem (Below (2 ^ 32)) (2 ^ 16) (fetch_half code next) None _ (half-below next) tt (λ low after l. omega (arith, k, l)))

-- ---- decoding

abbrev pub SmallDecoded : Result Decoded Trap → Type 0
SmallDecoded d = Decodes (λ w. w < 2 ^ 32) d

pub decoded-small : (code : List ℕ) → Bytes code → (place : ℕ) → SmallDecoded (instruction_at code place)
decoded-small code h place = instruction-decodes code (λ w. w < 2 ^ 32) (λ c w next e. subst (Below (2 ^ 32)) e (word_below code h c)) place
