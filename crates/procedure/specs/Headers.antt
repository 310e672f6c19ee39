-- A function's block: document 01's "Procedure segment", from "Header word 0" to "7+4·NCODE". A block is named by its
-- first word in the segment. A reader must believe: which bits each name stands for. Assumes nothing.
use Rattle.std.specs.Prelude.{ℕ, ◌+◌, ◌-◌, ◌*◌, ◌/◌, ◌%◌, ◌^◌, Bool, cond, List, take, drop, ltb, eqb, Option, Some, None}
use Rattle.procedure.specs.declared.header.Header.{Header}
use Rattle.procedure.specs.declared.header.Block.{Block}
use Rattle.descriptor.specs.declared.address.CodeAddress.{CodeAddress}
use Rattle.procedure.specs.Bytes.{half_at, word_at}

abbrev pub bit_of : ℕ → ℕ → Bool
bit_of k w = eqb (w / 2 ^ k % 2) 1

-- Header word 0: CALLTRACE 31, RTNTRACE 30, RESULT 29, NARGS 23–16, NLINES 15–0; word 1: NLOCALS high, NCODE low.
abbrev pub header_of_words : ℕ → ℕ → Header
header_of_words word0 word1 =
    record {
      calltrace = bit_of 31 word0;
      rtntrace = bit_of 30 word0;
      result = bit_of 29 word0;
      nargs = word0 / 2 ^ 16 % 2 ^ 8;
      nlines = word0 % 2 ^ 16;
      nlocals = word1 / 2 ^ 16;
      ncode = word1 % 2 ^ 16;
    }

-- The bits of header word 0 that have no name, 28–24.
abbrev pub unnamed_bits : ℕ → ℕ
unnamed_bits word0 = word0 / 2 ^ 24 % 2 ^ 5

-- The header of the block that starts at that word.
unfoldable pub header_at : List ℕ → ℕ → Header
header_at p start = header_of_words (word_at p (4 * start)) (word_at p (4 * start + 4))

abbrev pub block_at : List ℕ → ℕ → Block
block_at p start = record { start = start; header = header_at p start }

-- Code lies at bytes 8 to 7 + 4·NCODE of the block.
abbrev pub code_start : ℕ
code_start = 8

abbrev pub code_end : Header → ℕ
code_end h = 8 + 4 * h.ncode

-- The block's bytes up to the end of its code, so that a code address is an index.
unfoldable pub code_of : List ℕ → Block → List ℕ
code_of p b = take (code_end b.header) (drop (4 * b.start) p)

-- Then the code and 16-bit line entries. Line entry i stands for 1 to NLINES.
unfoldable pub line_of : List ℕ → Block → ℕ → Option CodeAddress
line_of p b i =
    cond (ltb i 1) None
    (cond (ltb b.header.nlines i) None
    (Some (record { 0 = half_at p (4 * b.start + code_end b.header + 2 * (i - 1)) })))
