-- What placing an array does: it finds a block exactly where some free block has the SIZE that the array needs, and then the
-- block's value is the shape and the elements lent, counted once; every other array is seen as before. Assumes nothing.
use Rattle.std.specs.Prelude.{ℕ, ◌≡◌, ◌↔◌, ◌≢◌, List, ◌∷◌}
use Rattle.descriptor.specs.Fields.{array_word}
use Rattle.segment.specs.Blocks.{need, count_at, shape_at, elements_at}
use Rattle.storage.specs.Arrays.{place_at, place}
use Rattle.storage.specs.Heap.{count}
use Rattle.segment.specs.Cells.{value, cell}
use Rattle.storage.specs.Owned.{Owned, OwnedStep}
use Rattle.storage_theorems.specs.Words.{HasRoom}

-- A new array, which nothing owned before and which one word owns now.
pub record NewArray (s owners shape elements : List ℕ) : Type 0 where
  pub unowned : count (array_word (place_at s shape elements)) owners ≡ 0
  pub step : OwnedStep s owners (place s shape elements) (array_word (place_at s shape elements) ∷ owners)
  pub counted : count_at (place s shape elements) (place_at s shape elements) ≡ 1
  pub shaped : shape_at (place s shape elements) (place_at s shape elements) ≡ shape
  pub filled : elements_at (place s shape elements) (place_at s shape elements) ≡ elements
  pub seen : cell (place s shape elements) (array_word (place_at s shape elements)) ≡ value shape elements

pub record Place (s owners shape elements : List ℕ) (own : Owned s owners) : Type 0 where
  pub found : (place_at s shape elements ≢ 0) ↔ HasRoom own.blocks (need shape elements)
  pub none : place_at s shape elements ≡ 0 → place s shape elements ≡ s
  pub new : place_at s shape elements ≢ 0 → NewArray s owners shape elements
