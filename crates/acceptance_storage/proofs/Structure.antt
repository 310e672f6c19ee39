-- Tests 13, 14 and 15 accept exactly what is stored as document 01 has it.
use Prim.Native.Nat.{ℕ, ◌+◌, ◌-◌, ◌^◌, ◌<◌, ◌≤◌}
use mathlib.Core.Path.{◌≡◌, ◌∙◌}
use mathlib.Core.Bool.{true, false}
use mathlib.Core.List.{List}
use native.Mathlib.Omega.{arith}
use lib.ListN.{get_or, length}
use lib.Dec.{eqb}
use borrow.Author.Tests.{eqb-true, eq-eqb}
use Rattle.segment.specs.State.{sbase, blockptr}
use Rattle.segment.specs.Blocks.{size_at, dummy}
use Rattle.storage.specs.Heap.{Block, Walk, over, frees}
use Rattle.storage.specs.Owned.{ArrayIn, Inside}
use Rattle.acceptance_storage.specs.Tests.{every}
use Rattle.acceptance_storage.specs.Head.{Head}
use Rattle.acceptance_storage.specs.Blocks.{walk_test, free_starts, array_starts, array_test, blocks_test}
use Rattle.acceptance_storage.specs.Structure.{Passed, Stored, arrays, StorageStructure}
use Rattle.acceptance_storage.proofs.Tests.{both, passes, every-at, every-all}
use Rattle.acceptance_storage.proofs.StateWords.{head-sound, head-complete}
use Rattle.acceptance_storage.proofs.Insides.{array-sound, array-complete}
use Rattle.acceptance_storage.proofs.Tiling.{Tiled, walk-sound, walk-complete, walk-starts, array-counted, array-named}
use Rattle.acceptance_storage.proofs.RingTest.{Ringed, ring-sound, ring-complete}

-- blocks that tile the storage of a segment whose state words are right
module _ (s : List ℕ) (h : Head s) (short : length s ≤ 16384) (blocks : List Block) (w : Walk s (blockptr s) false blocks) (o : over (blockptr s) blocks ≡ dummy s) where
  near : over (blockptr s) blocks < 2 ^ 16
  near = omega (arith, h.top)

  fuel : over (blockptr s) blocks - blockptr s < length s
  fuel = omega (arith, h.top, h.low)

  walk-passes : walk_test s ≡ true
  unfolding walk_test
  walk-passes = rw (← o) (walk-complete (length s) s (blockptr s) false blocks w near fuel)

  pub frees-are : free_starts s ≡ frees (blockptr s) blocks
  unfolding free_starts
  frees-are = rw (← o) (walk-starts (length s) s (blockptr s) false blocks w near fuel).0

  pub arrays-are : array_starts s ≡ arrays (blockptr s) blocks
  unfolding array_starts
  arrays-are = rw (← o) (walk-starts (length s) s (blockptr s) false blocks w near fuel).1

  inside-sound : every (array_test s) (array_starts s) ≡ true → (x size : ℕ) → ArrayIn (blockptr s) blocks x size → Inside s x size
  inside-sound t x size k =
      let r = array-counted s (blockptr s) false blocks x size w near k in
      rw r.1 at (array-sound s x (every-at (array_test s) (array_starts s) t x (rw arrays-are r.0)))

  inside-complete : ((x size : ℕ) → ArrayIn (blockptr s) blocks x size → Inside s x size) → every (array_test s) (array_starts s) ≡ true
  inside-complete i =
      every-all (array_test s) (array_starts s) (λ x k. array-complete s x (i x (size_at s x) (array-named s (blockptr s) false blocks x w near (rw arrays-are at k))))

  -- the dummy's last word, and the ring
  last_word : sbase s - 1 ≡ dummy s + 2
  last_word = omega (arith, h.room)

  stored : get_or s (dummy s + 2) 0 ≡ 0 → every (array_test s) (array_starts s) ≡ true → Ringed s → (blocks : List Block) × (ring : List ℕ) × Stored s blocks ring
  unfolding Ringed
  stored z t r = (
    blocks,
    r.0,
    record {
      head = h;
      heap = record {
        low = h.low;
        walk = w;
        top = omega (arith, h.room);
        dummy_end = rw last_word z;
        room = omega (arith, h.top);
        short = short;
        links = r.1;
        once = λ x. r.2 x ∙ rw (frees-are, ← o);
      };
      inside = inside-sound t;
    },
  )

pub blocks-facts : (s : List ℕ) → blocks_test s ≡ true → (walk_test s ≡ true) × (get_or s (dummy s + 2) 0 ≡ 0) × (every (array_test s) (array_starts s) ≡ true)
unfolding blocks_test
blocks-facts s h =
    let r = both _ (every (array_test s) (array_starts s)) h in
    let q = both (walk_test s) (eqb (get_or s (dummy s + 2) 0) 0) r.0 in
    (q.0, eqb-true _ _ q.1, r.1)

pub walk-tiles : (s : List ℕ) → Head s → length s ≤ 16384 → walk_test s ≡ true → Tiled s (blockptr s) false (dummy s)
unfolding walk_test
walk-tiles s h short t = walk-sound (length s) s (blockptr s) false (dummy s) (omega (arith, h.top)) t

pub sound : (s : List ℕ) → length s ≤ 16384 → Passed s → (blocks : List Block) × (ring : List ℕ) × Stored s blocks ring
unfolding Tiled
sound s short p =
    let h = head-sound s p.head in
    let b = blocks-facts s p.blocks in
    let t = walk-tiles s h short b.0 in
    stored s h short t.0 t.1 t.2 b.1 b.2 (ring-sound s p.ring)

module _ (s : List ℕ) (blocks : List Block) (ring : List ℕ) (h : Stored s blocks ring) where
  ends : over (blockptr s) blocks ≡ dummy s
  ends = omega (arith, h.heap.top)

  pub stored-frees : free_starts s ≡ frees (blockptr s) blocks
  stored-frees = frees-are s h.head h.heap.short blocks h.heap.walk ends

  pub stored-arrays : array_starts s ≡ arrays (blockptr s) blocks
  stored-arrays = arrays-are s h.head h.heap.short blocks h.heap.walk ends

  ringed : Ringed s
  unfolding Ringed
  ringed = (ring, h.heap.links, λ x. h.heap.once x ∙ rw (stored-frees, ends))

  blocks-pass : blocks_test s ≡ true
  unfolding blocks_test
  blocks-pass =
      let e : sbase s - 1 ≡ dummy s + 2 = last_word s h.head h.heap.short blocks h.heap.walk ends in
      passes (passes (walk-passes s h.head h.heap.short blocks h.heap.walk ends) (eq-eqb _ _ (rw e at h.heap.dummy_end)))
      (inside-complete s h.head h.heap.short blocks h.heap.walk ends h.inside)

  pub complete : Passed s
  complete = record { head = head-complete s h.head; blocks = blocks-pass; ring = ring-complete s ringed }

pub structure : StorageStructure
structure = record { sound = sound; complete = complete; array_blocks = stored-arrays; free_blocks = stored-frees }
