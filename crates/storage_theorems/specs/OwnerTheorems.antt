-- The theorems of arrays and their owners, with what each supposes. Proved in proofs/Theorems. Assumes nothing.
use Rattle.std.specs.Prelude.{ℕ, ◌^◌, ◌≤◌, ◌<◌, ◌≡◌, true, false, ◌⊎◌, List, ◌∷◌, ◌++◌, length}
use Rattle.descriptor.specs.Fields.{is_array, array_word}
use Rattle.descriptor.specs.Kinds.{is_scalar}
use Rattle.segment.specs.State.{sbase, blockptr}
use Rattle.segment.specs.Blocks.{product, shape_at}
use Rattle.segment.specs.Stack.{downward}
use Rattle.storage.specs.Arrays.{drop_words}
use Rattle.storage.specs.Heap.{count}
use Rattle.storage.specs.Owned.{ArrayIn, Owned, Proper, OwnedStep}
use Rattle.storage_theorems.specs.Elsewhere.{Elsewhere, Unmoved}
use Rattle.storage_theorems.specs.Counts.{Share, Drop}
use Rattle.storage_theorems.specs.Place.{Place}
use Rattle.storage_theorems.specs.Element.{ElementSet}

pub record OwnersTheorems : Type 0 where
  pub place : (s owners shape elements : List ℕ) (own : Owned s owners) → Proper shape elements → Place s owners shape elements own
  -- A word is shared that owns already, or that is no array's. A segment has fewer cells than a count can hold.
  pub share : (s owners : List ℕ) (w : ℕ) → Owned s owners → length owners < 65535 → (0 < count w owners) ⊎ (is_array w ≡ false) → Share s owners w
  pub drop : (s owners : List ℕ) (w : ℕ) (own : Owned s (w ∷ owners)) → Drop s owners w own
  -- `n` cells of the stack from `a` up are dropped, the highest first.
  pub drops : (s owners : List ℕ) (n a : ℕ) → Owned s (downward s a n ++ owners) → sbase s ≤ a → OwnedStep s (downward s a n ++ owners) (drop_words n s a) owners
  -- The order of the owners is of no matter, nor are words that are no array's.
  pub reorder : (s owners others : List ℕ) → ((x : ℕ) → x < 2 ^ 16 → count (array_word x) others ≡ count (array_word x) owners) → Owned s owners → Owned s others
  pub elsewhere : (s after owners : List ℕ) → Owned s owners → Elsewhere s after → Unmoved s after owners
  pub element : (s owners : List ℕ) (own : Owned s owners) (x size k v : ℕ) → ArrayIn (blockptr s) own.blocks x size → k < product (shape_at s x) → is_scalar v ≡ true
      → ElementSet s owners x k v
