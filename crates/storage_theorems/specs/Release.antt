-- What a release does to array storage that is a heap. Document 01: "the block covers SIZE + SLOP words, and release frees
-- them all"; "Release joins free neighbours". Proved in proofs/Release of every array of every heap. Assumes nothing.
use Rattle.std.specs.Prelude.{ℕ, ◌+◌, ◌≤◌, ◌<◌, ◌≡◌, ◌↔◌, ◌≢◌, ◌⊎◌, List, ◌∷◌}
use Rattle.segment.specs.State.{blockptr}
use Rattle.segment.specs.Blocks.{size_at, slop_at, span_at}
use Rattle.storage.specs.Release.{release}
use Rattle.storage.specs.Heap.{Block, free, array, span, Heap}
use Rattle.storage.specs.Owned.{ArrayIn}
use Rattle.storage_theorems.specs.Words.{FreeWord, Leaves}

-- The blocks from `a` on, before and after: the array at `x`, with the free blocks beside it, is one free block, and every
-- other block stands as it was.
pub data Freed (x size slop : ℕ) : ℕ → List Block → List Block → Type 0 where
  joins_both : {a m n : ℕ} {blocks : List Block} → x ≡ a + m
      → Freed x size slop a (free m ∷ array size slop ∷ free n ∷ blocks) (free (m + (size + slop) + n) ∷ blocks)
  joins_before : {a m : ℕ} {blocks : List Block} → x ≡ a + m
      → Freed x size slop a (free m ∷ array size slop ∷ blocks) (free (m + (size + slop)) ∷ blocks)
  joins_after : {a n : ℕ} {blocks : List Block} → x ≡ a
      → Freed x size slop a (array size slop ∷ free n ∷ blocks) (free (size + slop + n) ∷ blocks)
  joins_none : {a : ℕ} {blocks : List Block} → x ≡ a
      → Freed x size slop a (array size slop ∷ blocks) (free (size + slop) ∷ blocks)
  beyond : {a : ℕ} {b : Block} {old blocks : List Block} → Freed x size slop (a + span b) old blocks → Freed x size slop a (b ∷ old) (b ∷ blocks)

-- A release of the array at `x`, where the blocks were `old`: the heap after it and which blocks it has; exactly the SIZE +
-- SLOP words of the array become free; the other arrays are the arrays after it; and what is left as it was.
pub record Release (s : List ℕ) (old : List Block) (x : ℕ) : Type 0 where
  pub blocks : List Block
  pub ring : List ℕ
  pub heap : Heap (release s x) blocks ring
  pub freed : Freed x (size_at s x) (slop_at s x) (blockptr s) old blocks
  pub words : (i : ℕ) → FreeWord (blockptr s) blocks i ↔ (FreeWord (blockptr s) old i ⊎ ((x ≤ i) × (i < x + span_at s x)))
  pub others : (y size : ℕ) → ArrayIn (blockptr s) blocks y size ↔ (ArrayIn (blockptr s) old y size × (y ≢ x))
  pub leaves : Leaves s (release s x) blocks
