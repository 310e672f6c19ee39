-- The tables that the tests keep beside a segment: each says how often a number stands in a list. Assumes nothing.
use Rattle.std.specs.Prelude.{ℕ, ◌+◌, ◌≤◌, ◌<◌, ◌≡◌, List, [], get_or, length}
use Rattle.segment.specs.State.{blockptr}
use Rattle.segment.specs.Blocks as blocks
use Rattle.storage.specs.Heap.{count}
use Rattle.acceptance_storage.specs.Blocks.{free_starts, array_starts}

-- The table says of every number how often it stands in the list.
abbrev pub Tally : List ℕ → List ℕ → Type 0
Tally table l = (x : ℕ) → get_or table x 0 ≡ count x l

-- A table with nothing in it, for `n` numbers.
pub record Clear (table : List ℕ) (n : ℕ) : Type 0 where
  pub long : n ≤ length table
  pub empty : Tally table []

-- Before the walk of test 14: array storage stands from `from` up to the dummy at `end`, whose last word is 0; nothing is marked.
pub record BeforeWalk (s arrays frees : List ℕ) (from end : ℕ) : Type 0 where
  pub first : from ≡ blockptr s
  pub dummy : end ≡ blocks.dummy s
  pub order : from ≤ end
  pub inside : end + 2 < length s
  pub longest : length s ≤ 16384
  pub last : get_or s (end + 2) 0 ≡ 0
  pub array_table : Clear arrays (length s)
  pub free_table : Clear frees (length s)

-- Tables of the addresses where arrays, and where free blocks, start.
pub record Marked (s arrays frees : List ℕ) : Type 0 where
  pub array_marks : Tally arrays (array_starts s)
  pub free_marks : Tally frees (free_starts s)
