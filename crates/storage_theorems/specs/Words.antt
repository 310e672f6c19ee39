-- Which words of array storage belong to which block, told by the list of blocks from an address on.
-- A reader must believe: these are the words that a block covers, SIZE + SLOP of them. Assumes nothing.
use Rattle.std.specs.Prelude.{ℕ, ◌+◌, ◌≤◌, ◌<◌, ◌≡◌, ◌⊎◌, ◌≢◌, List, [], ◌∷◌, get_or, length}
use Rattle.segment.specs.State.{sbase, lbase, blockptr}
use Rattle.storage.specs.Heap.{Block, free, array, span}

-- Some free block has `size` words or more.
abbrev pub HasRoom : List Block → ℕ → Type 0
HasRoom [] size = ⊥
HasRoom (free n ∷ blocks) size = (size ≤ n) ⊎ HasRoom blocks size
HasRoom (array n slop ∷ blocks) size = HasRoom blocks size

-- The word at `i` belongs to a free block.
abbrev pub FreeWord : ℕ → List Block → ℕ → Type 0
FreeWord a [] i = ⊥
FreeWord a (free n ∷ blocks) i = ((a ≤ i) × (i < a + n)) ⊎ FreeWord (a + n) blocks i
FreeWord a (array n slop ∷ blocks) i = FreeWord (a + (n + slop)) blocks i

-- The word at `i` belongs to an array's block and is not the first of it.
abbrev pub Inner : ℕ → List Block → ℕ → Type 0
Inner a [] i = ⊥
Inner a (free n ∷ blocks) i = Inner (a + n) blocks i
Inner a (array n slop ∷ blocks) i = ((a < i) × (i < a + (n + slop))) ⊎ Inner (a + (n + slop)) blocks i

-- A block of `n` words stands at `x`, the dummy with its 3 words among them.
abbrev pub Extent : ℕ → List Block → ℕ → ℕ → Type 0
Extent a [] x n = (x ≡ a) × (n ≡ 3)
Extent a (b ∷ blocks) x n = ((x ≡ a) × (n ≡ span b)) ⊎ Extent (a + span b) blocks x n

-- A word outside array storage, or of an array of `blocks` and not its first.
abbrev pub Quiet : List ℕ → List Block → ℕ → Type 0
Quiet s blocks i = (i < blockptr s) ⊎ ((sbase s ≤ i) ⊎ Inner (blockptr s) blocks i)

-- What a request or a release leaves as it was: the length, LBASE beside ROVER, every other word outside array storage, and
-- every word of the arrays of `blocks` but the first of each, which holds PREVFREE.
pub record Leaves (s after : List ℕ) (blocks : List Block) : Type 0 where
  pub long : length after ≡ length s
  pub base : lbase after ≡ lbase s
  pub quiet : (i : ℕ) → i ≢ 1 → Quiet s blocks i → get_or after i 0 ≡ get_or s i 0
