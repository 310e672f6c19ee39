-- A write outside array storage: cells, frames, flags. Array storage, and the words that say where it is, are as they were.
-- Assumes nothing.
use Rattle.std.specs.Prelude.{ℕ, ◌≤◌, ◌<◌, ◌≡◌, List, get_or, length}
use Rattle.segment.specs.State.{sbase, rover, blockptr}
use Rattle.storage.specs.Heap.{count}
use Rattle.segment.specs.Cells.{cell}
use Rattle.storage.specs.Owned.{Owned}

pub record Elsewhere (s after : List ℕ) : Type 0 where
  pub long : length after ≡ length s
  pub bound : sbase after ≡ sbase s
  pub turn : rover after ≡ rover s
  pub start : blockptr after ≡ blockptr s
  pub inner : (i : ℕ) → blockptr s ≤ i → i < sbase s → get_or after i 0 ≡ get_or s i 0

-- It leaves every array with its owners, and what they are seen as.
pub record Unmoved (s after owners : List ℕ) : Type 0 where
  pub own : Owned after owners
  pub same : (w : ℕ) → 0 < count w owners → cell after w ≡ cell s w
