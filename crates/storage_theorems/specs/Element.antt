-- A scalar written over element `k` of the array at `x`, in place: the array has the new element, and every other array is
-- seen as before. Assumes nothing.
use Rattle.std.specs.Prelude.{ℕ, ◌+◌, ◌<◌, ◌≡◌, ◌≢◌, List, set}
use Rattle.descriptor.specs.Fields.{array_word}
use Rattle.segment.specs.Blocks.{rank_at, shape_at, elements_at}
use Rattle.storage.specs.Heap.{count}
use Rattle.segment.specs.Cells.{value, cell}
use Rattle.storage.specs.Owned.{Owned, CellsKept}

-- The segment after it: the elements start behind the two first words and the lengths.
abbrev pub set_element : List ℕ → ℕ → ℕ → ℕ → List ℕ
set_element s x k v = set s (x + 2 + rank_at s x + k) v

pub record ElementSet (s owners : List ℕ) (x k v : ℕ) : Type 0 where
  pub own : Owned (set_element s x k v) owners
  pub kept : CellsKept s (set_element s x k v)
  pub others : (w : ℕ) → w ≢ array_word x → 0 < count w owners → cell (set_element s x k v) w ≡ cell s w
  pub this : cell (set_element s x k v) (array_word x) ≡ value (shape_at s x) (set (elements_at s x) k v)
