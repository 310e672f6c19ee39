-- What tests 13, 14 and 15 accept, as a structure: the state words, blocks that tile array storage with one ring through the
-- dummy and the free ones (Heap), and every array's inside (Inside). The theorem goes both ways; proofs/Structure.antt proves
-- it. A reader must believe: the records named here say what document 01 says under "Data segment". Assumes nothing.
use Rattle.std.specs.Prelude.{ℕ, ◌+◌, ◌≤◌, ◌≡◌, true, List, [], ◌∷◌, length}
use Rattle.segment.specs.State.{blockptr}
use Rattle.storage.specs.Heap.{Block, free, array, frees, Heap}
use Rattle.storage.specs.Owned.{ArrayIn, Inside}
use Rattle.acceptance_storage.specs.Head.{head_test, Head}
use Rattle.acceptance_storage.specs.Blocks.{free_starts, array_starts, blocks_test}
use Rattle.acceptance_storage.specs.Ring.{ring_test}

-- Tests 13, 14 and 15 pass.
pub record Passed (s : List ℕ) : Type 0 where
  pub head : head_test s ≡ true
  pub blocks : blocks_test s ≡ true
  pub ring : ring_test s ≡ true

-- A segment whose array storage has these blocks, and the ring ROVER and then `ring`.
pub record Stored (s : List ℕ) (blocks : List Block) (ring : List ℕ) : Type 0 where
  pub head : Head s
  pub heap : Heap s blocks ring
  pub inside : (x size : ℕ) → ArrayIn (blockptr s) blocks x size → Inside s x size

-- The addresses of the arrays.
abbrev pub arrays : ℕ → List Block → List ℕ
arrays a [] = []
arrays a (free size ∷ blocks) = arrays (a + size) blocks
arrays a (array size slop ∷ blocks) = a ∷ arrays (a + (size + slop)) blocks

pub record StorageStructure : Type 0 where
  -- what passes the tests is stored so, and what is stored so passes them
  pub sound : (s : List ℕ) → length s ≤ 16384 → Passed s → (blocks : List Block) × (ring : List ℕ) × Stored s blocks ring
  pub complete : (s : List ℕ) (blocks : List Block) (ring : List ℕ) → Stored s blocks ring → Passed s
  -- the starts that the tests speak of are those of its blocks
  pub array_blocks : (s : List ℕ) (blocks : List Block) (ring : List ℕ) → Stored s blocks ring → array_starts s ≡ arrays (blockptr s) blocks
  pub free_blocks : (s : List ℕ) (blocks : List Block) (ring : List ℕ) → Stored s blocks ring → free_starts s ≡ frees (blockptr s) blocks
