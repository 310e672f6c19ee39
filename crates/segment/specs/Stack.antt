-- The stack and its frames, as document 01 has them under "Data segment". LTOP, LBASE and last LBASE count from SBASE.
-- A reader must believe: which word and bits each name stands for. Assumes nothing.
use Rattle.std.specs.Prelude.{ℕ, zero, suc, ◌+◌, ◌*◌, ◌/◌, ◌%◌, ◌^◌, List, [], ◌∷◌, get_or, set}
use Rattle.segment.specs.State.{sbase, lbase, low}

-- The word at an address that counts from SBASE.
abbrev pub stack_at : List ℕ → ℕ → ℕ
stack_at s a = get_or s (sbase s + a) 0

-- The two words of the frame at `base`: last LBASE; then P bit 27, function number bits 26–16, PCTR bits 15–0.
abbrev pub last_lbase_at : List ℕ → ℕ → ℕ
last_lbase_at s base = get_or s (sbase s + base) 0

abbrev pub code_word_at : List ℕ → ℕ → ℕ
code_word_at s base = get_or s (sbase s + base + 1) 0

abbrev pub alternate_bit : ℕ → ℕ
alternate_bit w = w / 2 ^ 27 % 2

abbrev pub function_number : ℕ → ℕ
function_number w = w / 2 ^ 16 % 2 ^ 11

abbrev pub pctr : ℕ → ℕ
pctr w = low w

-- `n` words from `a + n - 1` down to `a`: cells from the highest down.
abbrev pub downward : List ℕ → ℕ → ℕ → List ℕ
downward s a zero = []
downward s a (suc n) = get_or s (a + n) 0 ∷ downward s a n

-- PCTR of the current frame written anew.
unfoldable pub set_pctr : List ℕ → ℕ → List ℕ
set_pctr s place = set s (sbase s + lbase s + 1) (code_word_at s (lbase s) / 2 ^ 16 * 2 ^ 16 + place)
