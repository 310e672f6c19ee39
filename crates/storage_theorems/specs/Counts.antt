-- What sharing and dropping a cell's word do: one count goes up or down by one and nothing else changes, unless the last owner
-- goes, and then the array is released. `OwnedStep` has in it that every count is the number of owners afterwards, and never zero.
-- Decisions 28 and 29 of docs/DECISIONS.md. Assumes nothing.
use Rattle.std.specs.Prelude.{ℕ, ◌+◌, ◌-◌, ◌^◌, ◌<◌, ◌≡◌, true, false, List, ◌∷◌, get_or, set}
use Rattle.descriptor.specs.Fields.{is_array, address}
use Rattle.storage.specs.Release.{release}
use Rattle.storage.specs.Arrays.{share, drop_word}
use Rattle.storage.specs.Heap.{count}
use Rattle.storage.specs.Owned.{Owned, OwnedStep}
use Rattle.storage_theorems.specs.Release.{Release}

-- The word `w` gets one owner more. The count is the high half of the block's second word.
pub record Share (s owners : List ℕ) (w : ℕ) : Type 0 where
  pub step : OwnedStep s owners (share s w) (w ∷ owners)
  pub plain : is_array w ≡ false → share s w ≡ s
  pub raised : is_array w ≡ true → share s w ≡ set s (address w + 1) (get_or s (address w + 1) 0 + 2 ^ 16)

-- The word `w` loses an owner.
pub record Drop (s owners : List ℕ) (w : ℕ) (own : Owned s (w ∷ owners)) : Type 0 where
  pub step : OwnedStep s (w ∷ owners) (drop_word s w) owners
  pub plain : is_array w ≡ false → drop_word s w ≡ s
  pub lowered : is_array w ≡ true → 0 < count w owners → drop_word s w ≡ set s (address w + 1) (get_or s (address w + 1) 0 - 2 ^ 16)
  pub last : is_array w ≡ true → count w owners ≡ 0 → (drop_word s w ≡ release s (address w)) × Release s own.blocks (address w)
