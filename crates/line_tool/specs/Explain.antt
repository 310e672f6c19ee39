-- Statuses and traps in words: the former by document 01's table of returned numbers, the latter by the manual's appendix of
-- trap classes and numbers, as document 01 reads it. A reader must believe: the tables are theirs. Assumes nothing.
use Rattle.std.specs.Prelude.{ℕ, ◌+◌, ◌*◌, ◌≡◌, refl, cond, List, [], ◌∷◌, ◌++◌, eqb}
use Prim.Native.String.{String}
use Rattle.trap.specs.Trap.{trap_of}
use Rattle.line_tool.specs.Text.{bytes}
use Rattle.line_tool.specs.Writing.{decimal}
use Rattle.line_tool.specs.declared.explain.Last.{Last}
use Rattle.line_tool.specs.declared.explain.Last.TheVariants.{Nothing, Status, Trap}

-- What a table has at a number, and another text where it has nothing.
abbrev pub lookup : ℕ → List (ℕ × String) → String → String
lookup n [] none = none
lookup n (entry ∷ table) none = cond (eqb n entry.0) entry.1 (lookup n table none)

-- The statuses of a run, and the refusals of every operation.
abbrev pub statuses : List (ℕ × String)
statuses =
    (0, "done")
    ∷ (2, "the number of instructions asked was done")
    ∷ (3, "a trap")
    ∷ (10, "the data segment is not 32 to 16384 words long")
    ∷ (11, "a procedure segment is not 4 to 32768 bytes of whole words")
    ∷ (12, "a directory or a function's header is wrong")
    ∷ (13, "words 0-7: an unnamed bit set, BLOCKPTR below 8, under 3 array words, or SBASE or SBASE + LTOP past the end")
    ∷ (14, "blocks: the walk, a tag, a size, two free neighbours, a length or an element is wrong")
    ∷ (15, "the ring of free blocks or ROVER is wrong")
    ∷ (16, "a frame is wrong")
    ∷ (17, "a cell's kind or target is wrong")
    ∷ (18, "a count is zero or not the number of cells pointing to the array")
    ∷ (19, "globals above 4088, array words below 6, or the parts and the bottom frame exceed the words lent")
    ∷ (20, "the function is absent or has arguments")
    ∷ (21, "the address is no global")
    ∷ (22, "the global is undefined")
    ∷ (23, "rank above 15, a length above 65535, a count that is not the lengths' product, or a word that is no scalar")
    ∷ (24, "no free block is long enough")
    ∷ (25, "no record stands at that place of the file")
    ∷ (26, "the table of operators is not sixteen bytes, 0 to 15, each of them once")
    ∷ []

unfoldable pub status_words : ℕ → String
status_words n = lookup n statuses "no such status"

-- Traps as word 3 has them, the class in the high byte and the number in the low one.
abbrev pub traps : List (ℕ × String)
traps =
    (0x0101, "storage overflow: the stack is full")
    ∷ (0x0102, "storage overflow: no free block is long enough")
    ∷ (0x0201, "debug: an instruction was completed in step mode")
    ∷ (0x0202, "debug: a function was called in call-trace mode")
    ∷ (0x0203, "debug: a function was left in return-trace mode")
    ∷ (0x0204, "debug: a breakpoint")
    ∷ (0x0301, "system error: code, a jump or a function outside its bounds")
    ∷ (0x0302, "system error: a local outside its frame")
    ∷ (0x0303, "system error: an address that is no global")
    ∷ (0x0304, "system error: an operand is missing, or CALL's NARGS is not the header's")
    ∷ (0x0305, "system error: a word not of the kind wanted")
    ∷ (0x0306, "system error: double indirection")
    ∷ (0x0307, "system error: a MEMREF address of no known form")
    ∷ (0x0308, "system error: undefined MEMREF suboperation")
    ∷ (0x0309, "system error: undefined GENSCALAR suboperation")
    ∷ (0x030a, "system error: OPWE is too large on a restart")
    ∷ (0x030b, "system error: undefined ETC suboperation or first byte")
    ∷ (0x030c, "system error: temporaries left on return")
    ∷ (0x030d, "system error: a return from the bottom frame")
    ∷ (0x0400, "attention")
    ∷ (0x0500, "rank error")
    ∷ (0x0600, "length error")
    ∷ (0x0700, "type error: a character where a number is wanted")
    ∷ (0x0801, "domain error: integer overflow")
    ∷ (0x0802, "domain error: floating-point exponent underflow")
    ∷ (0x0803, "domain error: floating-point exponent overflow")
    ∷ (0x0804, "domain error: division by zero")
    ∷ (0x0805, "domain error: another value that does not serve")
    ∷ (0x0901, "index error: the wrong number of subscripts")
    ∷ (0x0902, "index error: a subscript is too large or small")
    ∷ (0x0a00, "value error: an undefined variable or result")
    ∷ []

unfoldable pub trap_words : ℕ → String
trap_words word = lookup word traps "no such trap"

unfoldable pub status_text : ℕ → List ℕ
status_text n = bytes "status " ++ decimal n ++ bytes ": " ++ bytes (status_words n)

unfoldable pub trap_text : ℕ → ℕ → List ℕ
trap_text class n = bytes "trap (" ++ decimal class ++ bytes "," ++ decimal n ++ bytes "): " ++ bytes (trap_words (class * 0x100 + n))

unfoldable pub last_text : Last → List ℕ
last_text Nothing = bytes "no status yet"
last_text (Status n) = status_text n
last_text (Trap trap) = trap_text trap.class trap.number

second-entry : lookup 2 ((1, "one") ∷ (2, "two") ∷ []) "none" ≡ "two"
second-entry = refl

no-entry : lookup 3 ((1, "one") ∷ (2, "two") ∷ []) "none" ≡ "none"
no-entry = refl

nothing_yet : last_text Nothing ≡ bytes "no status yet"
unfolding last_text
nothing_yet = refl

a-frame : last_text (Status 16) ≡ bytes "status 16: a frame is wrong"
unfolding last_text status_text status_words decimal
a-frame = refl

undefined-global : last_text (Status 22) ≡ bytes "status 22: the global is undefined"
unfolding last_text status_text status_words decimal
undefined-global = refl

no_record : last_text (Status 25) ≡ bytes "status 25: no record stands at that place of the file"
unfolding last_text status_text status_words decimal
no_record = refl

wrong-table : last_text (Status 26) ≡ bytes "status 26: the table of operators is not sixteen bytes, 0 to 15, each of them once"
unfolding last_text status_text status_words decimal
wrong-table = refl

no-status : last_text (Status 1) ≡ bytes "status 1: no such status"
unfolding last_text status_text status_words decimal
no-status = refl

full : last_text (Trap (trap_of 1 2)) ≡ bytes "trap (1,2): storage overflow: no free block is long enough"
unfolding last_text trap_text trap_words decimal
full = refl

bottom : last_text (Trap (trap_of 3 13)) ≡ bytes "trap (3,13): system error: a return from the bottom frame"
unfolding last_text trap_text trap_words decimal
bottom = refl

by_zero : last_text (Trap (trap_of 8 4)) ≡ bytes "trap (8,4): domain error: division by zero"
unfolding last_text trap_text trap_words decimal
by_zero = refl

-- A rank error has no number but 0.
no-trap : last_text (Trap (trap_of 5 1)) ≡ bytes "trap (5,1): no such trap"
unfolding last_text trap_text trap_words decimal
no-trap = refl
