-- Arrays, and array storage whose arrays are pointed to by a list of words and by nothing else.
-- The invariant speaks of any list of owning words, wherever they stand. Assumes nothing.
use Rattle.std.specs.Prelude.{◌≡◌, ℕ, ◌+◌, ◌/◌, ◌%◌, ◌^◌, ◌<◌, ◌≤◌, true, ◌⊎◌, List, [], ◌∷◌, length, slice_index, slice_index_or}
use Rattle.descriptor.specs.Fields.{integer_limit, array_word}
use Rattle.descriptor.specs.Kinds.{is_scalar}
use Rattle.segment.specs.State.{sbase, blockptr}
use Rattle.segment.specs.Blocks.{count_at, rank_at, shape_at, elements_at, product}
use Rattle.segment.specs.Cells.{cell}
use Rattle.storage.specs.Heap.{Block, free, array, count, Heap}

-- An array of SIZE `size` at `x` is among the blocks from `a` on.
abbrev pub ArrayIn : ℕ → List Block → ℕ → ℕ → Type 0
ArrayIn a [] x size = ⊥
ArrayIn a (free n ∷ blocks) x size = ArrayIn (a + n) blocks x size
ArrayIn a (array n slop ∷ blocks) x size = ((x ≡ a) × (size ≡ n)) ⊎ ArrayIn (a + (n + slop)) blocks x size

-- The inside of an array of SIZE `size` at `x`, as test 14 wants it.
pub record Inside (s : List ℕ) (x size : ℕ) : Type 0 where
  pub clear : slice_index_or s (x + 1) 0 % 2 ^ 16 ≡ rank_at s x
  pub rank : 1 ≤ rank_at s x
  pub sized : size ≡ 2 + rank_at s x + product (shape_at s x)
  pub lengths : (w : ℕ) → 0 < count w (shape_at s x) → w ≤ integer_limit
  pub scalars : (w : ℕ) → 0 < count w (elements_at s x) → is_scalar w ≡ true

-- Array storage whose arrays are pointed to by the words of `owners`, in any order, and by nothing else.
pub record Owned (s owners : List ℕ) : Type 0 where
  pub blocks : List Block
  pub ring : List ℕ
  pub heap : Heap s blocks ring
  pub named : (x : ℕ) → x < 2 ^ 16 → 0 < count (array_word x) owners → (size : ℕ) × ArrayIn (blockptr s) blocks x size
  pub counts : (x size : ℕ) → ArrayIn (blockptr s) blocks x size → (count_at s x ≡ count (array_word x) owners) × (0 < count (array_word x) owners)
  pub inside : (x size : ℕ) → ArrayIn (blockptr s) blocks x size → Inside s x size

-- An array that may be placed.
pub record Proper (shape elements : List ℕ) : Type 0 where
  pub rank : (1 ≤ length shape) × (length shape ≤ 15)
  pub size : product shape ≡ length elements
  pub lengths : (w : ℕ) → 0 < count w shape → w ≤ integer_limit
  pub scalars : (w : ℕ) → 0 < count w elements → is_scalar w ≡ true

-- What a step in array storage leaves: every word outside it, but for ROVER.
pub record CellsKept (s after : List ℕ) : Type 0 where
  pub long : length after ≡ length s
  pub first : slice_index_or after 0 0 ≡ slice_index s 0
  pub base : slice_index_or after 1 0 / 2 ^ 16 ≡ slice_index s 1 / 2 ^ 16
  pub rest : (i : ℕ) → 1 < i → (i < blockptr s) ⊎ (sbase s ≤ i) → slice_index after i ≡ slice_index s i

-- A step in array storage, from the owners `before` to the owners `owners`: what both own is seen alike.
pub record OwnedStep (s before after owners : List ℕ) : Type 0 where
  pub own : Owned after owners
  pub kept : CellsKept s after
  pub same : (w : ℕ) → 0 < count w before → 0 < count w owners → cell after w ≡ cell s w
