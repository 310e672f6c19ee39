-- Test 14, blocks: "walk, tags, sizes, two free neighbours, lengths, elements", with decisions 5–7 of docs/DECISIONS.md.
-- Assumes nothing.
use Rattle.std.specs.Prelude.{ℕ, zero, suc, ◌+◌, ◌-◌, ◌/◌, ◌%◌, ◌^◌, Bool, true, false, cond, not, ◌&&◌, List, [], ◌∷◌, get_or, length, leb, eqb}
use Rattle.descriptor.specs.Fields.{integer_limit}
use Rattle.descriptor.specs.Kinds.{is_scalar}
use Rattle.segment.specs.State.{blockptr}
use Rattle.segment.specs.Blocks.{free_at, size_at, slop_at, span_at, rank_at, dummy, part, product}
use Rattle.storage.specs.Heap.{prev_free_bit}
use Rattle.acceptance_storage.specs.Tests.{every, words_where}

-- ---- the walk

-- The words that a proper free block at `a` covers, where `before` says that the block before it is free; 0 of any other.
-- Word 0 is bit 31 and SIZE of at least 3, the last word is SIZE.
unfoldable pub free_span : List ℕ → ℕ → Bool → ℕ
free_span s a before =
    let size = get_or s a 0 - 2 ^ 31 in
    cond before 0 (cond (leb 3 size) (cond (eqb (get_or s (a + size - 1) 0) size) size 0) 0)

-- The same of an array's block: SIZE, SLOP 0–2, PREVFREE set exactly when the block before is free, no other bit.
unfoldable pub array_span : List ℕ → ℕ → Bool → ℕ
array_span s a before =
    cond (leb 3 (size_at s a))
    (cond (leb (slop_at s a) 2) (cond (eqb (get_or s a 0 / 2 ^ 18) (prev_free_bit before / 2 ^ 18)) (span_at s a) 0) 0)
    0

unfoldable pub block_span : List ℕ → ℕ → Bool → ℕ
block_span s a before = cond (free_at s a) (free_span s a before) (array_span s a before)

-- Proper blocks stand from `a` up to the dummy at `end`, whose word 0 is PREVFREE or nothing.
unfoldable pub walk_from : ℕ → List ℕ → ℕ → Bool → ℕ → Bool
walk_from zero s a before end = false
walk_from (suc fuel) s a before end =
    let further = walk_from fuel s (a + block_span s a before) (free_at s a) end in
    cond (eqb a end) (eqb (get_or s a 0) (prev_free_bit before))
    (cond (eqb (block_span s a before) 0) false (cond (leb (a + block_span s a before) end) further false))

unfoldable pub walk_test : List ℕ → Bool
walk_test s = walk_from (length s) s (blockptr s) false (dummy s)

-- ---- the blocks that the walk meets

-- Where they start, from `a` up to `end`: the free ones, or the arrays.
unfoldable pub starts_from : Bool → ℕ → List ℕ → ℕ → ℕ → List ℕ
starts_from free zero s a end = []
starts_from free (suc fuel) s a end =
    let further = starts_from free fuel s (a + span_at s a) end in
    cond (leb end a) [] (cond (cond free (free_at s a) (not (free_at s a))) (a ∷ further) further)

unfoldable pub free_starts : List ℕ → List ℕ
free_starts s = starts_from true (length s) s (blockptr s) (dummy s)

unfoldable pub array_starts : List ℕ → List ℕ
array_starts s = starts_from false (length s) s (blockptr s) (dummy s)

-- ---- the inside of an array

-- A length is an integer descriptor that is not negative.
abbrev pub is_length : ℕ → Bool
is_length w = leb w integer_limit

-- Word 1 has nothing between count and rank; rank 1–15; lengths; SIZE = 2 + rank + elements, by the exact product of the
-- lengths; every element a scalar.
unfoldable pub array_test : List ℕ → ℕ → Bool
array_test s a =
    let rank = rank_at s a in
    let count = product (part s (a + 2) rank) in
    eqb (get_or s (a + 1) 0 % 2 ^ 16) rank
    && leb 1 rank
    && words_where rank is_length s (a + 2)
    && eqb (size_at s a) (2 + rank + count)
    && words_where count is_scalar s (a + 2 + rank)

unfoldable pub blocks_test : List ℕ → Bool
blocks_test s = walk_test s && eqb (get_or s (dummy s + 2) 0) 0 && every (array_test s) (array_starts s)
