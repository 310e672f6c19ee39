-- Tests 10–18 accept exactly what is an accepted structure.
use Prim.Native.Nat.{ℕ, suc, ◌+◌, ◌-◌, ◌^◌, ◌<◌, ◌≤◌}
use mathlib.Core.Path.{◌≡◌, refl}
use mathlib.Core.Bool.{Bool, true, false, cond}
use mathlib.Core.List.{List}
use native.Mathlib.Omega.{arith}
use lib.ListN.{get_or, length}
use lib.Dec.{leb, eqb}
use borrow.Author.Tests.{leb-true, eqb-true, le-leb, eq-eqb, ne_eqb}
use Rattle.descriptor.specs.Fields.{array_word}
use Rattle.segment.specs.State.{ltop, lbase, blockptr}
use Rattle.segment.specs.Blocks.{size_at, count_at}
use Rattle.procedure.specs.Refusal.{procedure_refusal}
use Rattle.storage.specs.Heap.{Block, over, count}
use Rattle.storage.specs.Owned.{ArrayIn}
use Rattle.segment.specs.View.{owners}
use Rattle.acceptance_storage.specs.Tests.{words_where}
use Rattle.acceptance_storage.specs.Head.{head_test}
use Rattle.acceptance_storage.specs.Blocks.{array_starts, blocks_test}
use Rattle.acceptance_storage.specs.Ring.{ring_test}
use Rattle.acceptance_storage.specs.Structure.{Passed, Stored}
use Rattle.descriptor.proofs.Truth.{by-eq}
use Rattle.acceptance_storage.proofs.Tests.{both, passes, every-at, every-all}
use Rattle.acceptance_storage.proofs.Tiling.{array-counted, array-named}
use Rattle.acceptance_storage.proofs.Structure as storage
use Rattle.acceptance.specs.Frames.{frames_test}
use Rattle.acceptance.specs.Cells.{in_list, plain_cell, cells_test}
use Rattle.acceptance.specs.Counts.{count_test, counts_test}
use Rattle.acceptance.specs.Refusal.{length_test, data_refusal, refusal}
use Rattle.acceptance.specs.Structure.{FrameChain, Direct, StackCells, Accepted, Structure}
use Rattle.acceptance.proofs.ChainTest.{chain-sound, chain-complete}
use Rattle.acceptance.proofs.Positions.{words-at, words-all}
use Rattle.acceptance.proofs.CellKinds.{direct-sound, direct-complete, direct-map}
use Rattle.acceptance.proofs.FrameTest.{stack-sound, stack-complete, stack-map}
use Rattle.acceptance.proofs.Owners.{owners-name}

-- All tests pass.
pub record AllPass (s regular alternate : List ℕ) : Type 0 where
  pub shortest : 32 ≤ length s
  pub longest : length s ≤ 16384
  pub procedures : procedure_refusal regular alternate ≡ 0
  pub storage : Passed s
  pub frames : frames_test s regular alternate ≡ true
  pub cells : cells_test s regular alternate ≡ true
  pub counts : counts_test s ≡ true

-- A line of the table that lets pass.
pub line : (b : Bool) (rest n : ℕ) → cond b rest (suc n) ≡ 0 → (b ≡ true) × (rest ≡ 0)
line true rest n h = (refl, h)
line false rest n h = absurd (omega (arith, h))

data-passes : (s regular alternate : List ℕ) → data_refusal s regular alternate ≡ 0
    → Passed s × (frames_test s regular alternate ≡ true) × (cells_test s regular alternate ≡ true) × (counts_test s ≡ true)
unfolding data_refusal
data-passes s regular alternate h =
    let a = line (head_test s) _ 12 h in
    let b = line (blocks_test s) _ 13 a.1 in
    let c = line (ring_test s) _ 14 b.1 in
    let d = line (frames_test s regular alternate) _ 15 c.1 in
    let e = line (cells_test s regular alternate) _ 16 d.1 in
    let f = line (counts_test s) 0 17 e.1 in
    (record { head = a.0; blocks = b.0; ring = c.0 }, d.0, e.0, f.0)

pub table-sound : (s regular alternate : List ℕ) → refusal s regular alternate ≡ 0 → AllPass s regular alternate
unfolding refusal
table-sound s regular alternate h =
    let a = line (length_test s) _ 9 h in
    let l = both (leb 32 (length s)) (leb (length s) 16384) a.0 in
    by-eq (procedure_refusal regular alternate) 0
    (λ e. let d = data-passes s regular alternate (simp (eq-eqb (procedure_refusal regular alternate) 0 e) at a.1) in
    record { shortest = leb-true _ _ l.0; longest = leb-true _ _ l.1; procedures = e; storage = d.0; frames = d.1; cells = d.2; counts = d.3 })
    (λ e. absurd (e (simp (ne_eqb (procedure_refusal regular alternate) 0 e) at a.1)))

pub table-complete : (s regular alternate : List ℕ) → AllPass s regular alternate → refusal s regular alternate ≡ 0
unfolding refusal data_refusal
table-complete s regular alternate h =
    simp (
      le-leb 32 (length s) h.shortest,
      le-leb (length s) 16384 h.longest,
      eq-eqb (procedure_refusal regular alternate) 0 h.procedures,
      h.storage.head,
      h.storage.blocks,
      h.storage.ring,
      h.frames,
      h.cells,
      h.counts,
    )

-- The arrays of the walk, by the tests' list and by the blocks.
module _ (s : List ℕ) (blocks : List Block) (ring : List ℕ) (h : Stored s blocks ring) where
  near : over (blockptr s) blocks < 2 ^ 16
  near = omega (arith, h.heap.top, h.head.top, h.heap.short)

  pub started : (a size : ℕ) → ArrayIn (blockptr s) blocks a size → 0 < count a (array_starts s)
  started a size k = rw (storage.stored-arrays s blocks ring h) (array-counted s (blockptr s) false blocks a size h.heap.walk near k).0

  pub a_block : (a : ℕ) → 0 < count a (array_starts s) → (size : ℕ) × ArrayIn (blockptr s) blocks a size
  a_block a k = (size_at s a, array-named s (blockptr s) false blocks a h.heap.walk near (rw (storage.stored-arrays s blocks ring h) at k))

-- Test 18.
count-sound : (s owning : List ℕ) (a : ℕ) → count_test s owning a ≡ true → (count_at s a ≡ count (array_word a) owning) × (0 < count (array_word a) owning)
unfolding count_test
count-sound s owning a h =
    let b = both (leb 1 (count_at s a)) (eqb (count_at s a) (count (array_word a) owning)) h in
    let e = eqb-true (count_at s a) (count (array_word a) owning) b.1 in
    (e, omega (arith, e, leb-true 1 (count_at s a) b.0))

count-complete : (s owning : List ℕ) (a : ℕ) → (count_at s a ≡ count (array_word a) owning) × (0 < count (array_word a) owning) → count_test s owning a ≡ true
unfolding count_test
count-complete s owning a h =
    passes (le-leb 1 (count_at s a) (omega (arith, h.0, h.1))) (eq-eqb (count_at s a) (count (array_word a) owning) h.0)

module _ (s regular alternate : List ℕ) where
  pub sound : refusal s regular alternate ≡ 0 → Accepted s regular alternate
  unfolding frames_test cells_test counts_test
  sound h =
      let t = table-sound s regular alternate h in
      let r = storage.sound s t.longest t.storage in
      let k = both (leb (lbase s + 1) (ltop s)) _ t.frames in
      let top = leb-true (lbase s + 1) (ltop s) k.0 in
      let c = chain-sound (length s) s regular alternate (lbase s) k.1 in
      let g = both (words_where (blockptr s - 8) (plain_cell (in_list (array_starts s))) s 8) _ t.cells in
      put t r.0 r.1 r.2 top c.0 c.1
      (λ i l u. direct-sound (in_list (array_starts s)) (get_or s i 0) (words-at (blockptr s - 8) (plain_cell (in_list (array_starts s))) s 8 g.0 i l (omega arith)))
      (stack-sound c.0 (length s) (in_list (array_starts s)) s regular alternate (lbase s) (ltop s + 1) (omega (arith, top, r.2.head.top)) c.1 g.1)
      (λ x z. count-sound s (owners s) x (every-at (count_test s (owners s)) (array_starts s) t.counts x z))
    where
      put : AllPass s regular alternate → (blocks : List Block) (ring : List ℕ) → Stored s blocks ring → lbase s + 1 ≤ ltop s
          → (older : List ℕ) → FrameChain s regular alternate (lbase s) older
          → ((i : ℕ) → 8 ≤ i → i < blockptr s → Direct (λ a. 1 ≤ count a (array_starts s)) (get_or s i 0))
          → StackCells (λ a. 1 ≤ count a (array_starts s)) s regular alternate (lbase s) (ltop s + 1) older
          → ((x : ℕ) → 0 < count x (array_starts s) → (count_at s x ≡ count (array_word x) (owners s)) × (0 < count (array_word x) (owners s)))
          → Accepted s regular alternate
      put t blocks ring st top older chain globals cells counted = record {
        shortest = t.shortest;
        longest = t.longest;
        procedures = t.procedures;
        head = st.head;
        owned = record {
          blocks = blocks;
          ring = ring;
          heap = st.heap;
          named = λ x small k. a_block s blocks ring st x (owners-name (λ a. 1 ≤ count a (array_starts s)) s regular alternate x small older chain cells globals k);
          counts = λ x size k. counted x (started s blocks ring st x size k);
          inside = st.inside;
        };
        top = top;
        older = older;
        chain = chain;
        globals = λ i l u. direct-map (a_block s blocks ring st) (globals i l u);
        cells = stack-map (a_block s blocks ring st) older s regular alternate (lbase s) (ltop s + 1) cells;
      }

  pub complete : Accepted s regular alternate → refusal s regular alternate ≡ 0
  unfolding frames_test cells_test counts_test
  complete h = table-complete s regular alternate (record {
    shortest = h.shortest;
    longest = h.longest;
    procedures = h.procedures;
    storage = storage.complete s h.owned.blocks h.owned.ring st;
    frames = passes (le-leb (lbase s + 1) (ltop s) h.top) (chain-complete (length s) s regular alternate (lbase s) h.older (omega (arith, h.top, h.head.top)) h.chain);
    cells = passes
        (words-all (blockptr s - 8) (plain_cell (in_list (array_starts s))) s 8 (λ i l u. direct-complete (in_list (array_starts s)) (get_or s i 0) (direct-map began (h.globals i l (omega arith)))))
        (stack-complete h.older (length s) (in_list (array_starts s)) s regular alternate (lbase s) (ltop s + 1) (omega (arith, h.top, h.head.top)) (omega (arith, h.top, h.head.top, h.longest))
        (omega (arith, h.head.room, h.head.top, h.longest)) h.chain (stack-map began h.older s regular alternate (lbase s) (ltop s + 1) h.cells));
    counts = every-all (count_test s (owners s)) (array_starts s) (λ x k. let b = a_block s h.owned.blocks h.owned.ring st x k in count-complete s (owners s) x (h.owned.counts x b.0 b.1));
  })
    where
      st : Stored s h.owned.blocks h.owned.ring
      st = record { head = h.head; heap = h.owned.heap; inside = h.owned.inside }

      began : (a : ℕ) → (size : ℕ) × ArrayIn (blockptr s) h.owned.blocks a size → 1 ≤ count a (array_starts s)
      began a k = started s h.owned.blocks h.owned.ring st a k.0 k.1

pub structure : Structure
structure = record { sound = sound; complete = complete }
