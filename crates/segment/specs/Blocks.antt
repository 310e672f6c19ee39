-- The words of the blocks of array storage, as document 01 has them under "Data segment": an array's block, a free block and
-- the dummy. A reader must believe: which word and bits each name stands for. Assumes nothing.
use Rattle.std.specs.Prelude.{ℕ, zero, suc, ◌+◌, ◌-◌, ◌*◌, ◌/◌, ◌%◌, ◌^◌, Bool, List, [], ◌∷◌, get_or, length, leb}
use Rattle.segment.specs.State.{high, low, sbase}

-- Word 0 of a block: bit 31 set in a free one; PREVFREE bit 30; SLOP bits 17–16; SIZE bits 15–0.
abbrev pub free_at : List ℕ → ℕ → Bool
free_at s a = leb (2 ^ 31) (get_or s a 0)

abbrev pub prev_free_at : List ℕ → ℕ → Bool
prev_free_at s a = leb (2 ^ 30) (get_or s a 0 % 2 ^ 31)

abbrev pub slop_at : List ℕ → ℕ → ℕ
slop_at s a = get_or s a 0 / 2 ^ 16 % 4

abbrev pub size_at : List ℕ → ℕ → ℕ
size_at s a = get_or s a 0 % 2 ^ 16

-- The block covers SIZE + SLOP words.
abbrev pub span_at : List ℕ → ℕ → ℕ
span_at s a = size_at s a + slop_at s a

-- Word 1 of a free block and of the dummy: NEXT high, LAST low.
abbrev pub next_at : List ℕ → ℕ → ℕ
next_at s a = high (get_or s (a + 1) 0)

abbrev pub last_at : List ℕ → ℕ → ℕ
last_at s a = low (get_or s (a + 1) 0)

-- The dummy fills SBASE−3 to SBASE−1.
abbrev pub dummy : List ℕ → ℕ
dummy s = sbase s - 3

-- Word 1 of an array's block: count bits 31–16, rank bits 3–0. Then the lengths, then the elements.
abbrev pub count_at : List ℕ → ℕ → ℕ
count_at s a = high (get_or s (a + 1) 0)

abbrev pub rank_at : List ℕ → ℕ → ℕ
rank_at s a = get_or s (a + 1) 0 % 2 ^ 4

-- `n` words from `a` up.
abbrev pub part : List ℕ → ℕ → ℕ → List ℕ
part s a zero = []
part s a (suc n) = get_or s a 0 ∷ part s (a + 1) n

abbrev pub product : List ℕ → ℕ
product [] = 1
product (n ∷ lengths) = n * product lengths

unfoldable pub shape_at : List ℕ → ℕ → List ℕ
shape_at s a = part s (a + 2) (rank_at s a)

-- The elements of a block: the one definition of what an array holds.
unfoldable pub elements_at : List ℕ → ℕ → List ℕ
elements_at s a = part s (a + 2 + rank_at s a) (product (shape_at s a))

-- The words that a block needs: SIZE = 2 + rank + elements.
abbrev pub need : List ℕ → List ℕ → ℕ
need shape elements = 2 + length shape + length elements
