-- The theorems of array storage's blocks and ring, with what each supposes. Proved in proofs/Theorems. Assumes nothing.
use Rattle.std.specs.Prelude.{ℕ, ◌≤◌, List}
use Rattle.segment.specs.State.{blockptr}
use Rattle.storage.specs.Heap.{Block, Heap}
use Rattle.storage.specs.Owned.{ArrayIn}
use Rattle.storage_theorems.specs.Tiling.{Tiling}
use Rattle.storage_theorems.specs.Request.{Request}
use Rattle.storage_theorems.specs.Release.{Release}

pub record HeapTheorems : Type 0 where
  pub tiling : (s : List ℕ) (blocks : List Block) (ring : List ℕ) → Heap s blocks ring → Tiling s blocks
  pub request : (s : List ℕ) (blocks : List Block) (ring : List ℕ) (size : ℕ) → Heap s blocks ring → 3 ≤ size → Request s blocks size
  pub release : (s : List ℕ) (blocks : List Block) (ring : List ℕ) (x size : ℕ) → Heap s blocks ring → ArrayIn (blockptr s) blocks x size → Release s blocks x
