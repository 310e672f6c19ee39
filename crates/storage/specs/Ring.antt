-- The ring of free blocks and the tags of blocks: single fields written anew, the rest of the word kept.
-- A reader must believe: these are the fields of document 01's "Data segment". Assumes nothing.
use Rattle.std.specs.Prelude.{ℕ, ◌+◌, ◌-◌, ◌*◌, ◌%◌, ◌^◌, cond, List, ◌==◌, slice_index, slice_set}
use Rattle.segment.specs.State.{rover, set_rover}
use Rattle.segment.specs.Blocks.{next_at, last_at, dummy}

unfoldable pub set_next : List ℕ → ℕ → ℕ → List ℕ
set_next s a v = slice_set s (a + 1) (v * 2 ^ 16 + last_at s a)

unfoldable pub set_last : List ℕ → ℕ → ℕ → List ℕ
set_last s a v = slice_set s (a + 1) (next_at s a * 2 ^ 16 + v)

-- PREVFREE cleared, and set.
unfoldable pub clear_prev_free : List ℕ → ℕ → List ℕ
clear_prev_free s a = slice_set s a (slice_index s a % 2 ^ 30)

unfoldable pub set_prev_free : List ℕ → ℕ → List ℕ
set_prev_free s a = slice_set s a (slice_index s a % 2 ^ 30 + 2 ^ 30)

-- The first and the last word of a free block of `n` words.
unfoldable pub mark_free : List ℕ → ℕ → ℕ → List ℕ
mark_free s a n = slice_set (slice_set s a (2 ^ 31 + n)) (a + n - 1) n

-- The block at `a` leaves the ring.
unfoldable pub unlink : List ℕ → ℕ → List ℕ
unlink s a = set_last (set_next s (last_at s a) (next_at s a)) (next_at s a) (last_at s a)

-- The block at `a` goes in between `last` and `next`, with `w` as its second word.
unfoldable pub hook : List ℕ → ℕ → ℕ → ℕ → ℕ → List ℕ
hook s a w last next = set_last (set_next (slice_set s (a + 1) w) last a) next a

-- It goes in after the dummy; or it takes the place of the block at `q`.
unfoldable pub insert : List ℕ → ℕ → List ℕ
insert s a = hook s a (next_at s (dummy s) * 2 ^ 16 + dummy s) (dummy s) (next_at s (dummy s))

unfoldable pub relink : List ℕ → ℕ → ℕ → List ℕ
relink s q a = hook s a (slice_index s (q + 1)) (last_at s q) (next_at s q)

-- ROVER on a vanished block moves to the merged one.
unfoldable pub move_rover : List ℕ → ℕ → ℕ → List ℕ
move_rover s vanished merged = cond (rover s == vanished) (set_rover s merged) s
