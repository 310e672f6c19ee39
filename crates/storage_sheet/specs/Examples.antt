-- The sheet of small segments, by computation. Assumes nothing.
use Rattle.std.specs.Prelude.{◌≡◌, refl, set}
use Rattle.acceptance_storage.specs.Blocks.{starts_from, free_starts, array_starts}
use Rattle.acceptance_storage.specs.Examples.{small}
use Rattle.storage_sheet.specs.Sheet.{sheet_with, sheet_of}

pub record Examples : Type 0 where
  -- a free block of 5 words, an array of SIZE 5 with one word of slop, the dummy: 14 words from 8 up to 22
  pub three : sheet_of small ≡ sheet_with 5 1 5 3 14
  -- the same array, to which three cells point
  pub shared : sheet_of (set small 14 0x0003_0001) ≡ sheet_with 5 1 5 3 14

pub examples : Examples
unfolding starts_from free_starts array_starts sheet_of
examples = record { three = refl; shared = refl }
