-- What the sheet of an accepted segment is. Document 02, paper 3: "A block shared by several cells is counted once. It is shown that
-- the first four, each summed from the blocks, add up to the fifth." Proved in proofs/Theorems. Assumes nothing.
use Rattle.std.specs.Prelude.{ℕ, ◌+◌, ◌^◌, ◌≤◌, ◌<◌, ◌≡◌, true, List, [], ◌∷◌}
use Rattle.descriptor.specs.Fields.{array_word}
use Rattle.segment.specs.State.{sbase, blockptr}
use Rattle.segment.specs.View.{owners}
use Rattle.storage.specs.Heap.{Block, free, array, over, count}
use Rattle.acceptance_storage.specs.Blocks.{array_starts}
use Rattle.acceptance_storage.specs.Room.{long_enough}
use Rattle.acceptance.specs.Structure.{Accepted}
use Rattle.storage_sheet.specs.declared.Sheet.{Sheet}
use Rattle.storage_sheet.specs.Sheet.{sheet_of}

-- SIZE of the arrays, SLOP, and SIZE of the free blocks.
abbrev pub array_sizes : List Block → ℕ
array_sizes [] = 0
array_sizes (free size ∷ blocks) = array_sizes blocks
array_sizes (array size slop ∷ blocks) = size + array_sizes blocks

abbrev pub slops : List Block → ℕ
slops [] = 0
slops (free size ∷ blocks) = slops blocks
slops (array size slop ∷ blocks) = slop + slops blocks

abbrev pub free_sizes : List Block → ℕ
free_sizes [] = 0
free_sizes (free size ∷ blocks) = size + free_sizes blocks
free_sizes (array size slop ∷ blocks) = free_sizes blocks

-- A sheet whose first four counts are the sums over these blocks from BLOCKPTR up, and over the dummy, which goes from their end up to
-- SBASE.
pub record SummedFrom (s : List ℕ) (blocks : List Block) (sheet : Sheet) : Type 0 where
  pub arrays : sheet.arrays ≡ array_sizes blocks
  pub slop : sheet.slop ≡ slops blocks
  pub free : sheet.free ≡ free_sizes blocks
  pub end : over (blockptr s) blocks + sheet.end ≡ sbase s

pub record SheetTheorems : Type 0 where
  -- "each summed from the blocks": the blocks that tile array storage
  pub summed : (s regular alternate : List ℕ) (a : Accepted s regular alternate) → SummedFrom s a.owned.blocks (sheet_of s)
  -- "the first four .. add up to the fifth"
  pub adds : (s regular alternate : List ℕ) → Accepted s regular alternate
      → (sheet_of s).arrays + (sheet_of s).slop + (sheet_of s).free + (sheet_of s).end ≡ (sheet_of s).total
  -- "A block shared by several cells is counted once": an array stands once among those that are summed, however many cells hold its word
  pub once : (s regular alternate : List ℕ) → Accepted s regular alternate → (x : ℕ) → x < 2 ^ 16 → 0 < count (array_word x) (owners s)
      → count x (array_starts s) ≡ 1
  -- no request finds more than `free` words
  pub most : (s regular alternate : List ℕ) → Accepted s regular alternate → (n : ℕ) → long_enough s n ≡ true → n ≤ (sheet_of s).free
