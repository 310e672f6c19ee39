-- When the elements of a new array may be copied straight from where they stand: the request must leave their words as they
-- are. Nothing here need be believed: no public contract cites it, and the array is the same either way. Assumes nothing.
use Rattle.std.specs.Prelude.{ℕ, ◌+◌, Bool, not, ◌&&◌, List, length, leb, ltb}
use Rattle.segment.specs.Blocks.{size_at, next_at, last_at}
use Rattle.segment.specs.declared.blocks.Part.{Part}

-- The part neither ends before `low` nor starts behind `high`: a word of it may stand among them.
unfoldable pub touches : Part → ℕ → ℕ → Bool
touches p low high = ltb low (p.start.0 + p.count) && leb p.start.0 high

-- A request that the free block at `f` serves writes ROVER's word, words of that block, the first word behind it, and the
-- links of its neighbours in the ring.
unfoldable pub kept : List ℕ → ℕ → Part → Bool
kept s f p =
    leb (p.start.0 + p.count) (length s)
    && (not (touches p 0 1)
    && (not (touches p f (f + size_at s f))
    && (not (touches p (next_at s f + 1) (next_at s f + 1))
    && not (touches p (last_at s f + 1) (last_at s f + 1)))))

-- The free block lies in the segment, and both parts are left as they are.
unfoldable pub straight : List ℕ → ℕ → Part → Part → Bool
straight s f first second = leb (f + size_at s f) (length s) && (kept s f first && kept s f second)
