-- The state words of a fresh segment, and its array storage: one free block, and the dummy.
use Prim.Native.Nat.{ℕ, ◌+◌, ◌-◌, ◌*◌, ◌/◌, ◌%◌, ◌^◌, ◌<◌}
use mathlib.Core.Path.{◌≡◌, refl}
use mathlib.Core.Bool.{false}
use mathlib.Core.List.{List, [], ◌∷◌}
use native.Mathlib.Omega.{arith}
use Rattle.segment.specs.State.{sbase, ltop, lbase, rover}
use Rattle.storage.specs.Heap.{Block, free, Walk, Links, Heap}
use Rattle.acceptance_storage.specs.Head.{Head}
use Rattle.fresh_segment.specs.LayOut.{Layout, storage_start, base_of}
use Rattle.fresh_segment.proofs.Words.{Room, Laid}

-- The halves of a word.
high_half : (w a b : ℕ) → w ≡ a * 2 ^ 16 + b → b < 2 ^ 16 → w / 2 ^ 16 ≡ a
high_half w a b e l = omega arith

low_half : (w a b : ℕ) → w ≡ a * 2 ^ 16 + b → b < 2 ^ 16 → w % 2 ^ 16 ≡ b
low_half w a b e l = omega arith

abbrev pub blocks_of : Layout → List Block
blocks_of l = free (l.array_words - 3) ∷ []

abbrev pub ring_of : Layout → List ℕ
ring_of l = (base_of l - 3) ∷ []

module _ {s : List ℕ} {n locals word : ℕ} {l : Layout} (h : Room n locals l) (t : Laid s n locals word l) where
  pub laid-sbase : sbase s ≡ base_of l
  laid-sbase = high_half _ _ (locals + 1) t.word0 (omega (arith, h.longest, h.stack))

  pub laid-ltop : ltop s ≡ locals + 1
  laid-ltop = low_half _ (base_of l) _ t.word0 (omega (arith, h.longest, h.stack))

  pub laid-lbase : lbase s ≡ locals
  laid-lbase = high_half _ _ (storage_start l) t.word1 (omega (arith, h.longest, h.stack))

  pub laid-rover : rover s ≡ storage_start l
  laid-rover = low_half _ locals _ t.word1 (omega (arith, h.longest, h.stack))

  pub laid-head : Head s
  laid-head = record {
    flag_bits = rw (t.zeros 2 (omega arith) (omega arith)) (omega arith);
    trap_bits = rw (t.zeros 3 (omega arith) (omega arith)) (omega arith);
    low = rw t.word4 (omega arith);
    word5 = t.zeros 5 (omega arith) (omega arith);
    word6 = t.zeros 6 (omega arith) (omega arith);
    word7 = t.zeros 7 (omega arith) (omega arith);
    room = rw (t.word4, laid-sbase) (omega (arith, h.storage));
    top = rw (laid-sbase, laid-ltop, t.long) (omega (arith, h.stack));
  }

  after_free : storage_start l + (l.array_words - 3) ≡ base_of l - 3
  after_free = omega (arith, h.storage)

  laid-walk : Walk s (storage_start l) false (blocks_of l)
  laid-walk = (
    record { alone = refl; least = omega (arith, h.storage); first = t.first; end = rw after_free t.end },
    rw after_free t.dummy,
  )

  pub laid-links : Links s (storage_start l) (ring_of l) (storage_start l)
  laid-links = (
    record { next = high_half _ _ (base_of l - 3) t.links small; last = low_half _ (storage_start l) _ t.dummy_links start },
    record { next = high_half _ _ (storage_start l) t.dummy_links start; last = low_half _ (base_of l - 3) _ t.links small },
  )
    where
      small : base_of l - 3 < 2 ^ 16
      small = omega (arith, h.longest, h.stack)

      start : storage_start l < 2 ^ 16
      start = omega (arith, h.longest, h.stack)

  pub laid-heap : Heap s (blocks_of l) (ring_of l)
  laid-heap = record {
    low = rw t.word4 (omega arith);
    walk = rw t.word4 laid-walk;
    top = rw (t.word4, laid-sbase) (omega (arith, h.storage));
    dummy_end = rw laid-sbase t.dummy_end;
    room = rw (laid-sbase, t.long) (omega (arith, h.stack));
    short = rw t.long h.longest;
    links = rw laid-rover laid-links;
    once = λ x. rw (laid-rover, t.word4, after_free) (omega arith);
  }
