-- A request for a block. Document 01: "A request searches from ROVER along NEXT for the first SIZE that suffices. With 3 or
-- more over, the high end is given and the free block shrinks; else all, the rest being slop. ROVER becomes the found block's
-- NEXT." Decision 26 says which words are written. No block stands at 0, so 0 says that none was found. Assumes nothing.
use Rattle.std.specs.Prelude.{ℕ, zero, suc, ◌+◌, ◌-◌, ◌*◌, ◌^◌, cond, List, length, ◌==◌, nat_le, slice_set}
use Rattle.segment.specs.State.{rover, set_rover}
use Rattle.segment.specs.Blocks.{size_at, next_at}
use Rattle.storage.specs.Ring.{clear_prev_free, unlink}

-- The first block with room, from `at` along NEXT, until NEXT comes to `stop`.
unfoldable pub find_from : ℕ → List ℕ → ℕ → ℕ → ℕ → ℕ
find_from zero s size stop at = 0
find_from (suc fuel) s size stop at =
    let further = find_from fuel s size stop (next_at s at) in
    cond (nat_le size (size_at s at)) at (cond (next_at s at == stop) 0 further)

unfoldable pub find : List ℕ → ℕ → ℕ
find s size = find_from (length s) s size (rover s) (rover s)

-- The high end is given: the free block at `f` shrinks to `rest` words.
unfoldable pub split : List ℕ → ℕ → ℕ → ℕ → List ℕ
split s f rest size =
    clear_prev_free
    (slice_set (slice_set (slice_set s f (2 ^ 31 + rest)) (f + rest - 1) rest) (f + rest) (2 ^ 30 + size))
    (f + rest + size)

-- All is given, `slop` words over: the block at `f` leaves the ring.
unfoldable pub given_whole : List ℕ → ℕ → ℕ → ℕ → List ℕ
given_whole s f slop size = clear_prev_free (slice_set (unlink s f) f (slop * 2 ^ 16 + size)) (f + size + slop)

-- The free block at `f` serves the request: what is left, and where the block given starts.
unfoldable pub give : List ℕ → ℕ → ℕ → List ℕ
give s f size =
    cond (nat_le (size + 3) (size_at s f))
    (set_rover (split s f (size_at s f - size) size) (next_at s f))
    (set_rover (given_whole s f (size_at s f - size) size) (next_at s f))

unfoldable pub given : List ℕ → ℕ → ℕ → ℕ
given s f size = cond (nat_le (size + 3) (size_at s f)) (f + (size_at s f - size)) f

-- The request: the address of the block given, or 0; and the segment after it.
unfoldable pub request_at : List ℕ → ℕ → ℕ
request_at s size = cond (find s size == 0) 0 (given s (find s size) size)

unfoldable pub request : List ℕ → ℕ → List ℕ
request s size = cond (find s size == 0) s (give s (find s size) size)
