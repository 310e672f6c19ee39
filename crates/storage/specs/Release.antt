-- The release of an array's block. Document 01: "Release joins free neighbours: the merged block keeps the earlier free
-- block's ring place, else the later's; ROVER on a vanished block moves to the merged one. Joining none, it goes in after the
-- dummy." Decision 27 says which words are written. Assumes nothing.
use Rattle.std.specs.Prelude.{ℕ, ◌+◌, ◌-◌, cond, List}
use Rattle.segment.specs.Blocks.{size_at, span_at, prev_free_at, free_at}
use Rattle.storage.specs.Ring.{set_prev_free, mark_free, unlink, insert, relink, move_rover}

-- The four ways: `n` words are freed from `p`, the free block before, or from `a`, the array itself; the block after is at
-- `q` where it is free and joins, and at `e` where not.
unfoldable pub join_both : List ℕ → ℕ → ℕ → ℕ → List ℕ
join_both s p n q = move_rover (mark_free (unlink s q) p (n + size_at s q)) q p

unfoldable pub join_before : List ℕ → ℕ → ℕ → ℕ → List ℕ
join_before s p n e = set_prev_free (mark_free s p n) e

unfoldable pub join_after : List ℕ → ℕ → ℕ → ℕ → List ℕ
join_after s a n q = move_rover (mark_free (relink s q a) a (n + size_at s q)) q a

unfoldable pub join_none : List ℕ → ℕ → ℕ → ℕ → List ℕ
join_none s a n e = set_prev_free (mark_free (insert s a) a n) e

-- The array at `a` is released, all SIZE + SLOP words of it.
unfoldable pub release : List ℕ → ℕ → List ℕ
release s a =
    cond (prev_free_at s a)
    (cond (free_at s (a + span_at s a))
    (join_both s (a - size_at s (a - 1)) (size_at s (a - 1) + span_at s a) (a + span_at s a))
    (join_before s (a - size_at s (a - 1)) (size_at s (a - 1) + span_at s a) (a + span_at s a)))
    (cond (free_at s (a + span_at s a))
    (join_after s a (span_at s a) (a + span_at s a))
    (join_none s a (span_at s a) (a + span_at s a)))
