-- Reading a function's code: document 01's "Reading a code byte yields the byte and the place after it". Code is the function's
-- block up to the end of its code, as `code_of` of procedure/specs/Headers has it, so that a code address is an index.
-- A reader must believe: the high byte stands first, and a byte past the end is outside. Assumes nothing.
use Rattle.std.specs.Prelude.{ℕ, ◌+◌, ◌*◌, ◌/◌, ◌%◌, ◌^◌, cond, List, length, ltb, Option, Some, None}
use Rattle.descriptor.specs.declared.address.CodeAddress.{CodeAddress}
use Rattle.procedure.specs.Bytes.{byte_at}
use Rattle.instruction.specs.declared.cursor.Cursor.{Cursor}

abbrev pub code_address : ℕ → CodeAddress
code_address n = record { 0 = n }

abbrev pub cursor_at : ℕ → Cursor
cursor_at n = record { at = n }

-- A code address is a number of 32 bits. Code is far shorter.
abbrev pub place_of : Cursor → CodeAddress
place_of c = code_address (c.at % 2 ^ 32)

unfoldable pub fetch_byte : List ℕ → Cursor → Option (ℕ × Cursor)
fetch_byte code c = cond (ltb c.at (length code)) (Some (byte_at code c.at, cursor_at (c.at + 1))) None

-- The next word boundary of the function.
abbrev pub boundary : ℕ → ℕ
boundary at = (at + 3) / 4 * 4

-- The cursors at the first of that many words from the next boundary on, all of them in the code, and past the last.
unfoldable pub fetch_words : List ℕ → Cursor → ℕ → Option (Cursor × Cursor)
fetch_words code c count =
    cond (ltb (length code) (boundary c.at + 4 * count)) None
    (Some (cursor_at (boundary c.at), cursor_at (boundary c.at + 4 * count)))

-- What is done with what was read, and the answer outside the code.
abbrev pub with_read : {V A : Type 0} → Option (V × Cursor) → A → (V → Cursor → A) → A
with_read (Some read) outside f = f read.0 read.1
with_read None outside f = outside

unfoldable pub fetch_half : List ℕ → Cursor → Option (ℕ × Cursor)
fetch_half code c =
    with_read (fetch_byte code c) None
    (λ high next. with_read (fetch_byte code next) None (λ low after. Some (high * 2 ^ 8 + low, after)))

unfoldable pub fetch_word : List ℕ → Cursor → Option (ℕ × Cursor)
fetch_word code c =
    with_read (fetch_half code c) None
    (λ high next. with_read (fetch_half code next) None (λ low after. Some (high * 2 ^ 16 + low, after)))
