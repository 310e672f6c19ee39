-- A small segment and damaged ones, tried on the definitions. Assumes nothing.
use Rattle.std.specs.Prelude.{ℕ, ◌≡◌, refl, true, false, List, [], ◌∷◌, set}
use Rattle.descriptor.specs.Kinds.{is_scalar, kind_of, integer_kind, character_kind, array_kind, indirect_kind, undefined_kind, unsigned_kind}
use Rattle.storage.specs.Heap.{hit}
use Rattle.acceptance_storage.specs.Tests.{words_where}
use Rattle.acceptance_storage.specs.Head.{head_test}
use Rattle.acceptance_storage.specs.Blocks.{free_span, array_span, block_span, walk_from, walk_test, starts_from, free_starts, array_starts, array_test, blocks_test}
use Rattle.acceptance_storage.specs.Ring.{linked, round_from, ring_test}
use Rattle.acceptance_storage.specs.Room.{long_enough}

-- No globals; a free block of 5 words at 8; at 13 the array 7 1.0 with one word of slop; the dummy at 19; the stack from 22.
abbrev pub small : List ℕ
small =
    0x00160001 ∷ 0x00000013 ∷ 0 ∷ 0 ∷ 8 ∷ 0 ∷ 0 ∷ 0
    ∷ 0x80000005 ∷ 0x00130013 ∷ 0 ∷ 0 ∷ 5
    ∷ 0x40010005 ∷ 0x00010001 ∷ 2 ∷ 7 ∷ 0x60000000 ∷ 0xFFFFFFFF
    ∷ 0 ∷ 0x00080008 ∷ 0
    ∷ 0 ∷ 0 ∷ 0 ∷ 0 ∷ 0 ∷ 0 ∷ 0 ∷ 0 ∷ 0 ∷ 0 ∷ []

pub record Examples : Type 0 where
  pub head : head_test small ≡ true
  pub blocks : blocks_test small ≡ true
  pub ring : ring_test small ≡ true
  pub free : free_starts small ≡ 8 ∷ []
  pub arrays : array_starts small ≡ 13 ∷ []
  -- a request of 5 words can be served, of 6 not
  pub enough : long_enough small 5 ≡ true
  pub short : long_enough small 6 ≡ false
  -- a flag that has no name, BLOCKPTR below 8, LTOP past the end
  pub stray_flag : head_test (set small 2 0x10) ≡ false
  pub low_blockptr : head_test (set small 4 7) ≡ false
  pub high_ltop : head_test (set small 0 0x0016000A) ≡ false
  -- SLOP 3, PREVFREE clear after a free block, two free neighbours, a free block whose last word is not its SIZE
  pub slop : blocks_test (set small 13 0x40030005) ≡ false
  pub prev_free : blocks_test (set small 13 0x00010005) ≡ false
  pub neighbours : blocks_test (set (set (set small 13 0x80000006) 18 6) 19 0x40000000) ≡ false
  pub last_word : blocks_test (set small 12 4) ≡ false
  -- a length that does not fit SIZE, minus zero among the elements, a dummy whose last word is not 0
  pub length : blocks_test (set small 15 3) ≡ false
  pub element : blocks_test (set small 16 0x80000000) ≡ false
  pub dummy_end : blocks_test (set small 21 1) ≡ false
  -- LAST that does not lead back, a ring without the free block, ROVER on an array
  pub last : ring_test (set small 20 0x00080013) ≡ false
  pub empty : ring_test (set small 20 0x00130013) ≡ false
  pub rover : ring_test (set small 1 13) ≡ false

pub examples : Examples
unfolding is_scalar kind_of integer_kind character_kind array_kind indirect_kind undefined_kind unsigned_kind hit words_where head_test free_span array_span block_span walk_from walk_test starts_from free_starts array_starts array_test blocks_test linked round_from ring_test long_enough
examples = record {
  head = refl;
  blocks = refl;
  ring = refl;
  free = refl;
  arrays = refl;
  enough = refl;
  short = refl;
  stray_flag = refl;
  low_blockptr = refl;
  high_ltop = refl;
  slop = refl;
  prev_free = refl;
  neighbours = refl;
  last_word = refl;
  length = refl;
  element = refl;
  dummy_end = refl;
  last = refl;
  empty = refl;
  rover = refl;
}
