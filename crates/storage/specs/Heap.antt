-- What array storage must be: blocks that tile it from BLOCKPTR to SBASE, and one ring through the dummy and every free block.
-- This is tests 14 and 15 of document 01 as a structure, apart from what stands inside an array (Owned). Assumes nothing.
use Rattle.std.specs.Prelude.{◌≡◌, ℕ, ◌+◌, ◌-◌, ◌*◌, ◌^◌, ◌≤◌, Bool, true, false, cond, List, [], ◌∷◌, length, ◌==◌, slice_index, slice_index_or}
use Rattle.segment.specs.State.{sbase, rover, blockptr}
use Rattle.segment.specs.Blocks.{next_at, last_at}

-- A block: a free one by its SIZE, an array's by its SIZE and SLOP.
pub data Block : Type 0 where
  free : ℕ → Block
  array : ℕ → ℕ → Block

abbrev pub span : Block → ℕ
span (free size) = size
span (array size slop) = size + slop

abbrev pub is_free : Block → Bool
is_free (free size) = true
is_free (array size slop) = false

-- PREVFREE as it stands in a word.
abbrev pub prev_free_bit : Bool → ℕ
prev_free_bit true = 2 ^ 30
prev_free_bit false = 0

-- The words of a block at `a`, where `before` says that the block before it is free: no two free neighbours, tags, sizes.
pub record FreeBlock (s : List ℕ) (a : ℕ) (before : Bool) (size : ℕ) : Type 0 where
  pub alone : before ≡ false
  pub least : 3 ≤ size
  pub first : slice_index_or s a 0 ≡ 2 ^ 31 + size
  pub end : slice_index_or s (a + size - 1) 0 ≡ size

pub record ArrayBlock (s : List ℕ) (a : ℕ) (before : Bool) (size slop : ℕ) : Type 0 where
  pub least : 3 ≤ size
  pub small : slop ≤ 2
  pub first : slice_index_or s a 0 ≡ prev_free_bit before + slop * 2 ^ 16 + size

abbrev pub BlockAt : List ℕ → ℕ → Bool → Block → Type 0
BlockAt s a before (free size) = FreeBlock s a before size
BlockAt s a before (array size slop) = ArrayBlock s a before size slop

-- The blocks stand one after the other from `a`, and then the dummy.
abbrev pub Walk : List ℕ → ℕ → Bool → List Block → Type 0
Walk s a before [] = slice_index s a ≡ prev_free_bit before
Walk s a before (b ∷ blocks) = BlockAt s a before b × Walk s (a + span b) (is_free b) blocks

-- Where the blocks end.
abbrev pub over : ℕ → List Block → ℕ
over a [] = a
over a (b ∷ blocks) = over (a + span b) blocks

-- The addresses of the free blocks.
abbrev pub frees : ℕ → List Block → List ℕ
frees a [] = []
frees a (free size ∷ blocks) = a ∷ frees (a + size) blocks
frees a (array size slop ∷ blocks) = frees (a + (size + slop)) blocks

-- How often a number stands in a list.
unfoldable pub hit : ℕ → ℕ → ℕ
hit x y = cond (x == y) 1 0

abbrev pub count : ℕ → List ℕ → ℕ
count x [] = 0
count x (y ∷ l) = hit x y + count x l

-- NEXT leads from `a` through the list to `z`, and LAST back.
pub record Link (s : List ℕ) (a b : ℕ) : Type 0 where
  pub next : next_at s a ≡ b
  pub last : last_at s b ≡ a

abbrev pub Links : List ℕ → ℕ → List ℕ → ℕ → Type 0
Links s a [] z = Link s a z
Links s a (b ∷ ring) z = Link s a b × Links s b ring z

-- Array storage with these blocks, whose ring is ROVER and then `ring`. `dummy_end`: the dummy's last word is 0.
pub record Heap (s : List ℕ) (blocks : List Block) (ring : List ℕ) : Type 0 where
  pub low : 8 ≤ blockptr s
  pub walk : Walk s (blockptr s) false blocks
  pub top : over (blockptr s) blocks + 3 ≡ sbase s
  pub dummy_end : slice_index_or s (sbase s - 1) 0 ≡ 0
  pub room : sbase s ≤ length s
  pub short : length s ≤ 16384
  pub links : Links s (rover s) ring (rover s)
  pub once : (x : ℕ) → count x (rover s ∷ ring) ≡ count x (over (blockptr s) blocks ∷ frees (blockptr s) blocks)
