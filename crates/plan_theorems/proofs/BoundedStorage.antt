-- Array storage keeps to words of 32 bits: sizes, links and counts are fields of words.
use Prim.Native.Nat.{ℕ, zero, suc, ◌+◌, ◌-◌, ◌*◌, ◌%◌, ◌^◌, ◌<◌}
use mathlib.Core.Bool.{Bool, true, false, cond}
use mathlib.Core.List.{List}
use native.Mathlib.Omega.{arith}
use lib.Dec.{leb, eqb}
use lib.ListN.{get_or, length}
use Rattle.descriptor.specs.Fields.{is_array, address}
use Rattle.segment.specs.State.{rover}
use Rattle.segment.specs.Blocks.{size_at, span_at, next_at, last_at, dummy, count_at, free_at, prev_free_at, need}
use Rattle.segment.specs.Lent.{Words}
use Rattle.segment.proofs.Words.{words-sets, Short, short-set, either, short-rover}
use Rattle.storage.specs.Ring.{set_next, set_last, clear_prev_free, set_prev_free, mark_free, unlink, hook, insert, relink, move_rover}
use Rattle.storage.specs.Release.{join_both, join_before, join_after, join_none, release}
use Rattle.storage.specs.Request.{find_from, find, split, given_whole, give, given, request_at, request}
use Rattle.storage.specs.Arrays.{fill, place_at, place, raise, lower, share, drop_word, drop_words}

-- ---- the ring

module _ {s : List ℕ} (h : Short s) where
  short-next : (a v : ℕ) → v < 2 ^ 16 → Short (set_next s a v)
  unfolding set_next
  short-next a v k = short-set h (a + 1) (v * 2 ^ 16 + last_at s a) (omega arith)

  short-last : (a v : ℕ) → v < 2 ^ 16 → Short (set_last s a v)
  unfolding set_last
  short-last a v k = short-set h (a + 1) (next_at s a * 2 ^ 16 + v) (omega (arith, h.at (a + 1)))

  short-clear : (a : ℕ) → Short (clear_prev_free s a)
  unfolding clear_prev_free
  short-clear a = short-set h a (get_or s a 0 % 2 ^ 30) (omega arith)

  short-prev : (a : ℕ) → Short (set_prev_free s a)
  unfolding set_prev_free
  short-prev a = short-set h a (get_or s a 0 % 2 ^ 30 + 2 ^ 30) (omega arith)

  short-free : (a n : ℕ) → n < 2 ^ 31 → Short (mark_free s a n)
  unfolding mark_free
  short-free a n k = short-set (short-set h a (2 ^ 31 + n) (omega arith)) (a + n - 1) n (omega arith)

  short-move : (vanished merged : ℕ) → merged < 2 ^ 16 → Short (move_rover s vanished merged)
  unfolding move_rover
  short-move vanished merged k = either (eqb (rover s) vanished) (short-rover h merged k) h

module _ {s : List ℕ} (h : Short s) where
  short-unlink : (a : ℕ) → Short (unlink s a)
  unfolding unlink
  short-unlink a = short-last (short-next h (last_at s a) (next_at s a) (omega (arith, h.at (a + 1)))) (next_at s a) (last_at s a) (omega arith)

  short-hook : (a w last next : ℕ) → a < 2 ^ 16 → w < 2 ^ 32 → Short (hook s a w last next)
  unfolding hook
  short-hook a w last next k l = short-last (short-next (short-set h (a + 1) w l) last a k) next a k

  short-insert : (a : ℕ) → a < 2 ^ 16 → Short (insert s a)
  unfolding insert
  short-insert a k =
      short-hook a (next_at s (dummy s) * 2 ^ 16 + dummy s) (dummy s) (next_at s (dummy s)) k (omega (arith, h.at 0, h.at (dummy s + 1)))

  short-relink : (q a : ℕ) → a < 2 ^ 16 → Short (relink s q a)
  unfolding relink
  short-relink q a k = short-hook a (get_or s (q + 1) 0) (last_at s q) (next_at s q) k (h.at (q + 1))

  -- ---- release

  short-both : (p n q : ℕ) → p < 2 ^ 16 → n < 2 ^ 30 → Short (join_both s p n q)
  unfolding join_both
  short-both p n q k l = short-move (short-free (short-unlink q) p (n + size_at s q) (omega arith)) q p k

  short-before : (p n e : ℕ) → n < 2 ^ 30 → Short (join_before s p n e)
  unfolding join_before
  short-before p n e l = short-prev (short-free h p n (omega arith)) e

  short-after : (a n q : ℕ) → a < 2 ^ 16 → n < 2 ^ 30 → Short (join_after s a n q)
  unfolding join_after
  short-after a n q k l = short-move (short-free (short-relink q a k) a (n + size_at s q) (omega arith)) q a k

  short_none : (a n e : ℕ) → a < 2 ^ 16 → n < 2 ^ 30 → Short (join_none s a n e)
  unfolding join_none
  short_none a n e k l = short-prev (short-free (short-insert a k) a n (omega arith)) e

  short-release : (a : ℕ) → a < 2 ^ 16 → Short (release s a)
  unfolding release
  short-release a k =
      let n = span_at s a in
      either (prev_free_at s a)
      (either (free_at s (a + n))
      (short-both (a - size_at s (a - 1)) (size_at s (a - 1) + n) (a + n) (omega arith) (omega arith))
      (short-before (a - size_at s (a - 1)) (size_at s (a - 1) + n) (a + n) (omega arith)))
      (either (free_at s (a + n)) (short-after a n (a + n) k (omega arith)) (short_none a n (a + n) k (omega arith)))

  -- ---- request

  short-split : (f rest size : ℕ) → rest < 2 ^ 16 → size < 2 ^ 16 → Short (split s f rest size)
  unfolding split
  short-split f rest size k l =
      let free = short-set (short-set h f (2 ^ 31 + rest) (omega arith)) (f + rest - 1) rest (omega arith) in
      short-clear (short-set free (f + rest) (2 ^ 30 + size) (omega arith)) (f + rest + size)

  short-whole : (f slop size : ℕ) → slop < 2 ^ 16 → size < 2 ^ 16 → Short (given_whole s f slop size)
  unfolding given_whole
  short-whole f slop size k l = short-clear (short-set (short-unlink f) f (slop * 2 ^ 16 + size) (omega arith)) (f + size + slop)

  short-give : (f size : ℕ) → size < 2 ^ 16 → Short (give s f size)
  unfolding give
  short-give f size k =
      either (leb (size + 3) (size_at s f))
      (short-rover (short-split f (size_at s f - size) size (omega arith) k) (next_at s f) (omega (arith, h.at (f + 1))))
      (short-rover (short-whole f (size_at s f - size) size (omega arith) k) (next_at s f) (omega (arith, h.at (f + 1))))

  short-request : (size : ℕ) → size < 2 ^ 16 → Short (request s size)
  unfolding request
  short-request size k = either (eqb (find s size) 0) h (short-give (find s size) size k)

  find-below : (fuel size stop at : ℕ) → at < 2 ^ 16 → find_from fuel s size stop at < 2 ^ 16
  unfolding find_from
  find-below zero size stop at k = omega arith
  find-below (suc fuel) size stop at k =
      go (leb size (size_at s at)) (eqb (next_at s at) stop) (find-below fuel size stop (next_at s at) (omega (arith, h.at (at + 1))))
    where
      go : (b c : Bool) → find_from fuel s size stop (next_at s at) < 2 ^ 16 → cond b at (cond c 0 (find_from fuel s size stop (next_at s at))) < 2 ^ 16
      go true c l = k
      go false true l = omega arith
      go false false l = l

  pub request-below : (size : ℕ) → request_at s size < 2 ^ 17
  unfolding request_at given find
  request-below size = go (eqb (find s size) 0) (leb (size + 3) (size_at s (find s size)))
    where
      go : (b c : Bool) → cond b 0 (cond c (find s size + (size_at s (find s size) - size)) (find s size)) < 2 ^ 17
      go true c = omega arith
      go false true = omega (arith, find-below (length s) size (rover s) (rover s) (omega arith))
      go false false = omega (arith, find-below (length s) size (rover s) (rover s) (omega arith))

  -- ---- arrays

  short-fill : (a : ℕ) (shape elements : List ℕ) → length shape < 2 ^ 16 → Words shape → Words elements → Short (fill s a shape elements)
  unfolding fill
  short-fill a shape elements n k l =
      let one = short-set h (a + 1) (1 * 2 ^ 16 + length shape) (omega arith) in
      record { at = words-sets _ (words-sets _ one.at (a + 2) shape k) (a + 2 + length shape) elements l }

  short-raise : (a : ℕ) → Short (raise s a)
  unfolding raise
  short-raise a = short-set h (a + 1) ((get_or s (a + 1) 0 + 2 ^ 16) % 2 ^ 32) (omega arith)

  short-lower : (a : ℕ) → a < 2 ^ 16 → Short (lower s a)
  unfolding lower
  short-lower a k =
      either (eqb (count_at s a) 1) (short-release a k) (short-set h (a + 1) (get_or s (a + 1) 0 - 2 ^ 16) (omega (arith, h.at (a + 1))))

  pub short-share : (w : ℕ) → Short (share s w)
  unfolding share
  short-share w = either (is_array w) (short-raise (address w)) h

  pub short-drop : (w : ℕ) → Short (drop_word s w)
  unfolding drop_word
  short-drop w = either (is_array w) (short-lower (address w) (omega arith)) h

pub short-drops : (n : ℕ) {s : List ℕ} → Short s → (a : ℕ) → Short (drop_words n s a)
short-drops zero h a = h
short-drops (suc n) {s} h a = short-drops n (short-drop h (get_or s (a + n) 0)) a

pub short-place : {s : List ℕ} → Short s → (shape elements : List ℕ) → need shape elements < 2 ^ 16 → Words shape → Words elements
    → Short (place s shape elements)
unfolding place
short-place {s} h shape elements n k l =
    either (eqb (place_at s shape elements) 0) h (short-fill (short-request h (need shape elements) n) (place_at s shape elements) shape elements (omega arith) k l)
