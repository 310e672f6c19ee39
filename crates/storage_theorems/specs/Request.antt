-- What a request does to array storage that is a heap. Document 01: "A request searches from ROVER along NEXT for the first
-- SIZE that suffices. With 3 or more over, the high end is given and the free block shrinks; else all, the rest being slop."
-- Proved in proofs/Request of every heap and every size of 3 or more. Assumes nothing.
use Rattle.std.specs.Prelude.{ℕ, ◌+◌, ◌-◌, ◌≤◌, ◌<◌, ◌≡◌, ◌↔◌, ◌≢◌, ◌⊎◌, List, ◌∷◌}
use Rattle.segment.specs.State.{blockptr}
use Rattle.segment.specs.Blocks.{span_at}
use Rattle.storage.specs.Request.{request, request_at}
use Rattle.storage.specs.Heap.{Block, free, array, span, Heap}
use Rattle.storage.specs.Owned.{ArrayIn}
use Rattle.storage_theorems.specs.Words.{HasRoom, FreeWord, Leaves}

-- The blocks from `a` on, before and after: a block of SIZE `size` at `x` came out of a free one, at its high end or entire,
-- and every other block stands as it was.
pub data Placed (x size : ℕ) : ℕ → List Block → List Block → Type 0 where
  high_end : {a n : ℕ} {blocks : List Block} → size + 3 ≤ n → x ≡ a + (n - size)
      → Placed x size a (free n ∷ blocks) (free (n - size) ∷ array size 0 ∷ blocks)
  entire : {a n : ℕ} {blocks : List Block} → size ≤ n → n < size + 3 → x ≡ a
      → Placed x size a (free n ∷ blocks) (array size (n - size) ∷ blocks)
  further : {a : ℕ} {b : Block} {old blocks : List Block} → Placed x size (a + span b) old blocks → Placed x size a (b ∷ old) (b ∷ blocks)

-- A request that is served, where the blocks were `old`: the heap after it and which blocks it has; exactly the SIZE + SLOP
-- words of the block given are free no more; the arrays are the one given and those that were, from each of which it is apart;
-- and what is left as it was.
pub record Served (s : List ℕ) (old : List Block) (size : ℕ) : Type 0 where
  pub blocks : List Block
  pub ring : List ℕ
  pub heap : Heap (request s size) blocks ring
  pub placed : Placed (request_at s size) size (blockptr s) old blocks
  pub words : (i : ℕ) → FreeWord (blockptr s) old i
      ↔ (FreeWord (blockptr s) blocks i ⊎ ((request_at s size ≤ i) × (i < request_at s size + span_at (request s size) (request_at s size))))
  pub arrays : (y other : ℕ) → ArrayIn (blockptr s) blocks y other ↔ (((y ≡ request_at s size) × (other ≡ size)) ⊎ ArrayIn (blockptr s) old y other)
  pub apart : (y other : ℕ) → ArrayIn (blockptr s) old y other → (request_at s size + size ≤ y) ⊎ (y + other ≤ request_at s size)
  pub leaves : Leaves s (request s size) old

-- A request finds a block exactly where some free block is long enough; where it finds none nothing changes.
pub record Request (s : List ℕ) (old : List Block) (size : ℕ) : Type 0 where
  pub found : (request_at s size ≢ 0) ↔ HasRoom old size
  pub none : request_at s size ≡ 0 → request s size ≡ s
  pub served : request_at s size ≢ 0 → Served s old size
