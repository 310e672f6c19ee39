-- Whether array storage can serve a request: "no free block long enough" (document 01's table, 24), "full with a long block
-- free" (its Agreement, where blocks are those that "the walk from BLOCKPTR" reaches). It is HasRoom of the blocks that are
-- stored (storage_theorems/specs/Words.antt); proofs/Room.antt proves that. A reader must believe: `long_enough`. Assumes nothing.
use Rattle.std.specs.Prelude.{ℕ, Bool, true, false, cond, List, [], ◌∷◌, leb}
use Rattle.segment.specs.Blocks.{size_at}
use Rattle.acceptance_storage.specs.Blocks.{free_starts}

-- Some member of a list passes a test.
abbrev pub some : (ℕ → Bool) → List ℕ → Bool
some test [] = false
some test (x ∷ l) = cond (test x) true (some test l)

-- Some free block that the walk from BLOCKPTR meets has a SIZE of at least `n`.
unfoldable pub long_enough : List ℕ → ℕ → Bool
long_enough s n = some (λ a. leb n (size_at s a)) (free_starts s)
