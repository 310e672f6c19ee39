-- Examples M1 to M4 of document 01, by computation: array storage as a lay out leaves it, and what requests and releases make
-- of it. Assumes nothing.
use Rattle.std.specs.Prelude.{◌≡◌, ℕ, List, [], ◌∷◌, ◌++◌, length, replicate, slice_index, refl}
use Rattle.std.proofs.Common.{arith}
use Rattle.descriptor.specs.Fields.{array_word, undefined_word}
use Rattle.segment.specs.State.{rover, set_rover, sbase, blockptr}
use Rattle.segment.specs.Blocks.{shape_at, elements_at, count_at}
use Rattle.storage.specs.Ring.{set_next, set_last, clear_prev_free, set_prev_free, mark_free, unlink, hook, insert}
use Rattle.storage.specs.Request.{find_from, find, split, given_whole, give, given, request_at, request}
use Rattle.storage.specs.Release.{join_before, join_none, release}
use Rattle.storage.specs.Arrays.{fill, place_at, place, raise, lower, share, drop_word}
use Rattle.storage.specs.Heap.{Heap, free}

-- M1: 64 words, 4 globals, 24 array words, one local. The state words and the globals; array storage; the bottom frame.
abbrev pub fresh : List ℕ
fresh =
    (0x00240002 ∷ 0x0001000C ∷ 0 ∷ 0 ∷ 12 ∷ replicate 3 0)
    ++ replicate 4 undefined_word
    ++ (0x80000015 ∷ 0x00210021 ∷ replicate 18 0)
    ++ (0x00000015 ∷ 0x40000000 ∷ 0x000C000C ∷ 0 ∷ [])
    ++ (undefined_word ∷ 1 ∷ 0x00010008 ∷ replicate 25 0)

pub m1 : (length fresh ≡ 64) × (blockptr fresh ≡ 12) × (sbase fresh ≡ 36) × (rover fresh ≡ 12)
    × (slice_index fresh 12 ≡ 0x80000015) × (slice_index fresh 13 ≡ 0x00210021)
    × (slice_index fresh 33 ≡ 0x40000000) × (slice_index fresh 34 ≡ 0x000C000C)
m1 = (refl, refl, refl, refl, refl, refl, refl, refl)

-- One free block of 21 words, and a ring of it and the dummy.
pub m1-heap : Heap fresh (free 21 ∷ []) (33 ∷ [])
m1-heap =
    record {
      low = omega arith;
      walk = (record { alone = refl; least = omega arith; first = refl; end = refl }, refl);
      top = refl;
      dummy_end = refl;
      room = omega arith;
      short = omega arith;
      links = (record { next = refl; last = refl }, record { next = refl; last = refl });
      once = λ x. omega arith;
    }

-- M2: the vector of 5 goes to 25, the high end of the free block, which shrinks to 13 words.
abbrev five : List ℕ
five = 0 ∷ 1 ∷ 2 ∷ 3 ∷ 4 ∷ []

abbrev placed : List ℕ
placed = place fresh (5 ∷ []) five

pub m2 : (array_word (place_at fresh (5 ∷ []) five) ≡ 0x02000019)
    × (slice_index placed 12 ≡ 0x8000000D) × (slice_index placed 25 ≡ 0x40000008) × (rover placed ≡ 33)
    × (count_at placed 25 ≡ 1) × (shape_at placed 25 ≡ 5 ∷ []) × (elements_at placed 25 ≡ five)
unfolding place_at place request_at request find find_from give given split clear_prev_free set_rover fill shape_at elements_at
m2 = (refl, refl, refl, refl, refl, refl, refl)

-- Shared, it is counted twice; dropped once, it is as before; dropped again, it joins the free block before it. The last
-- word that the free block had meanwhile, its links and the words of the array keep what they held.
pub m2-dropped : (count_at (share placed 0x02000019) 25 ≡ 2) × (drop_word (share placed 0x02000019) 0x02000019 ≡ placed)
    × (slice_index (drop_word placed 0x02000019) 12 ≡ 0x80000015) × (slice_index (drop_word placed 0x02000019) 13 ≡ 0x00210021)
    × (slice_index (drop_word placed 0x02000019) 24 ≡ 13) × (slice_index (drop_word placed 0x02000019) 25 ≡ 0x40000008)
    × (slice_index (drop_word placed 0x02000019) 32 ≡ 21) × (slice_index (drop_word placed 0x02000019) 33 ≡ 0x40000000)
    × (rover (drop_word placed 0x02000019) ≡ 33)
unfolding place_at place request_at request find find_from give given split clear_prev_free set_rover fill share raise drop_word lower release join_before set_prev_free mark_free
m2-dropped = (refl, refl, refl, refl, refl, refl, refl, refl, refl)

-- M3: a need of 18 from 21 splits: 3 words stay free.
pub m3 : (request_at fresh 18 ≡ 15) × (slice_index (request fresh 18) 12 ≡ 0x80000003) × (slice_index (request fresh 18) 14 ≡ 3)
    × (slice_index (request fresh 18) 15 ≡ 0x40000012) × (slice_index (request fresh 18) 33 ≡ 0)
unfolding request_at request find find_from give given split clear_prev_free set_rover
m3 = (refl, refl, refl, refl, refl)

-- M4: of 19 leaves slop 2: all is given, and the dummy is alone on the ring. The release frees the slop too.
pub m4 : (request_at fresh 19 ≡ 12) × (slice_index (request fresh 19) 12 ≡ 0x00020013) × (slice_index (request fresh 19) 33 ≡ 0)
    × (slice_index (request fresh 19) 34 ≡ 0x00210021) × (rover (request fresh 19) ≡ 33)
    × (slice_index (release (request fresh 19) 12) 12 ≡ 0x80000015) × (slice_index (release (request fresh 19) 12) 13 ≡ 0x00210021)
    × (slice_index (release (request fresh 19) 12) 33 ≡ 0x40000000) × (slice_index (release (request fresh 19) 12) 34 ≡ 0x000C000C)
unfolding request_at request find find_from give given given_whole unlink set_next set_last clear_prev_free set_rover release join_none insert hook mark_free set_prev_free
m4 = (refl, refl, refl, refl, refl, refl, refl, refl, refl)

-- 22 words are not to be had, nor is any need above 65,535.
pub full : (request_at fresh 22 ≡ 0) × (request fresh 22 ≡ fresh) × (request_at fresh 65536 ≡ 0)
unfolding request_at request find find_from
full = (refl, refl, refl)
