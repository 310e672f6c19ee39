-- The eight state words of a data segment, as document 01 has them under "Data segment". A segment is a list of words; a
-- read past its end is 0 and a write there does nothing. A reader must believe: which bits each name stands for. Assumes nothing.
use Rattle.std.specs.Prelude.{ℕ, ◌+◌, ◌*◌, ◌/◌, ◌%◌, ◌^◌, List, get_or, set}

-- The halves of a word.
abbrev pub high : ℕ → ℕ
high w = w / 2 ^ 16

abbrev pub low : ℕ → ℕ
low w = w % 2 ^ 16

-- Word 0: SBASE, LTOP. Word 1: LBASE, ROVER.
abbrev pub sbase : List ℕ → ℕ
sbase s = high (get_or s 0 0)

abbrev pub ltop : List ℕ → ℕ
ltop s = low (get_or s 0 0)

abbrev pub lbase : List ℕ → ℕ
lbase s = high (get_or s 1 0)

abbrev pub rover : List ℕ → ℕ
rover s = low (get_or s 1 0)

-- Word 2: the flags IORG, FCNCTRC, FCNRTRC, STEP in bits 0–3.
abbrev pub flags : List ℕ → ℕ
flags s = get_or s 2 0

abbrev pub iorg : ℕ → ℕ
iorg f = f % 2

abbrev pub fcnctrc : ℕ → ℕ
fcnctrc f = f / 2 % 2

abbrev pub fcnrtrc : ℕ → ℕ
fcnrtrc f = f / 2 ^ 2 % 2

abbrev pub step_flag : ℕ → ℕ
step_flag f = f / 2 ^ 3 % 2

-- Word 3: the trap, its class in bits 15–8 and its number in bits 7–0. Word 4: BLOCKPTR.
abbrev pub trap_word : List ℕ → ℕ
trap_word s = get_or s 3 0

abbrev pub trap_of : ℕ → ℕ → ℕ
trap_of class number = class * 2 ^ 8 + number

abbrev pub blockptr : List ℕ → ℕ
blockptr s = get_or s 4 0

-- One field written anew, the other half of its word kept.
unfoldable pub set_ltop : List ℕ → ℕ → List ℕ
set_ltop s v = set s 0 (sbase s * 2 ^ 16 + v)

unfoldable pub set_lbase : List ℕ → ℕ → List ℕ
set_lbase s v = set s 1 (v * 2 ^ 16 + rover s)

unfoldable pub set_rover : List ℕ → ℕ → List ℕ
set_rover s v = set s 1 (lbase s * 2 ^ 16 + v)

unfoldable pub set_iorg : List ℕ → ℕ → List ℕ
set_iorg s v = set s 2 (flags s / 2 * 2 + v)

unfoldable pub set_trap : List ℕ → ℕ → ℕ → List ℕ
set_trap s class number = set s 3 (trap_of class number)
