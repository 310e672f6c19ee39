-- "Can two lists share a word?" No: two arrays of a heap share none, and every word of array storage, from BLOCKPTR to SBASE,
-- lies in exactly one block, the dummy among them. Proved of every heap in proofs/Tiling. Assumes nothing.
use Rattle.std.specs.Prelude.{ℕ, ◌+◌, ◌≤◌, ◌<◌, ◌≡◌, ◌≢◌, List}
use Rattle.segment.specs.State.{sbase, blockptr}
use Rattle.storage.specs.Heap.{Block}
use Rattle.storage.specs.Owned.{ArrayIn}
use Rattle.storage_theorems.specs.Words.{Extent}

-- The block of `n` words at `x` holds the word at `i`, and no other block does.
pub record Holder (s : List ℕ) (blocks : List Block) (i : ℕ) : Type 0 where
  pub x : ℕ
  pub n : ℕ
  pub block : Extent (blockptr s) blocks x n
  pub holds : (x ≤ i) × (i < x + n)
  pub only : (y m : ℕ) → Extent (blockptr s) blocks y m → y ≤ i → i < y + m → (y ≡ x) × (m ≡ n)

pub record Tiling (s : List ℕ) (blocks : List Block) : Type 0 where
  pub apart : (x size y other i : ℕ) → ArrayIn (blockptr s) blocks x size → ArrayIn (blockptr s) blocks y other → x ≢ y
      → (x ≤ i) × (i < x + size) → (y ≤ i) × (i < y + other) → ⊥
  pub holder : (i : ℕ) → blockptr s ≤ i → i < sbase s → Holder s blocks i
