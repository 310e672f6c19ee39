-- Test 13, words 0–7: "an unnamed bit set, BLOCKPTR below 8, under 3 array words, SBASE or SBASE + LTOP past the end", with
-- decision 4 of docs/DECISIONS.md. Assumes nothing.
use Rattle.std.specs.Prelude.{ℕ, ◌+◌, ◌^◌, ◌≤◌, ◌<◌, ◌≡◌, Bool, ◌&&◌, List, get_or, length, leb, ltb, eqb}
use Rattle.segment.specs.State.{sbase, ltop, flags, trap_word, blockptr}

unfoldable pub head_test : List ℕ → Bool
head_test s =
    ltb (flags s) (2 ^ 4)
    && ltb (trap_word s) (2 ^ 16)
    && leb 8 (blockptr s)
    && eqb (get_or s 5 0) 0
    && eqb (get_or s 6 0) 0
    && eqb (get_or s 7 0) 0
    && leb (blockptr s + 3) (sbase s)
    && ltb (sbase s + ltop s) (length s)

-- The same as facts.
pub record Head (s : List ℕ) : Type 0 where
  pub flag_bits : flags s < 2 ^ 4
  pub trap_bits : trap_word s < 2 ^ 16
  pub low : 8 ≤ blockptr s
  pub word5 : get_or s 5 0 ≡ 0
  pub word6 : get_or s 6 0 ≡ 0
  pub word7 : get_or s 7 0 ≡ 0
  pub room : blockptr s + 3 ≤ sbase s
  pub top : sbase s + ltop s < length s
