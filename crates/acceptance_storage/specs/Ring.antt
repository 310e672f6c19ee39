-- Test 15, ring or ROVER: "not one round of NEXT through the dummy and every free block, each once, with LAST its reverse, or
-- ROVER not on it", with decision 7 of docs/DECISIONS.md. Assumes nothing.
use Rattle.std.specs.Prelude.{ℕ, zero, suc, Bool, cond, ◌&&◌, List, [], ◌∷◌, length, leb, eqb}
use Rattle.segment.specs.State.{rover}
use Rattle.segment.specs.Blocks.{next_at, last_at, dummy}
use Rattle.storage.specs.Heap.{count}
use Rattle.acceptance_storage.specs.Blocks.{free_starts}

-- The list with `x` taken out once.
abbrev pub without : ℕ → List ℕ → List ℕ
without x [] = []
without x (y ∷ l) = cond (eqb x y) l (y ∷ without x l)

-- NEXT leads from `a` to `b`, and LAST back.
unfoldable pub linked : List ℕ → ℕ → ℕ → Bool
linked s a b = eqb (next_at s a) b && eqb (last_at s b) a

-- NEXT leads from `a` through `n` of the blocks in `left`, each once, and then to `end`.
unfoldable pub round_from : ℕ → List ℕ → ℕ → ℕ → List ℕ → Bool
round_from zero s end a left = linked s a end
round_from (suc n) s end a left =
    let further = round_from n s end (next_at s a) (without (next_at s a) left) in
    linked s a (next_at s a) && leb 1 (count (next_at s a) left) && further

unfoldable pub ring_test : List ℕ → Bool
ring_test s =
    round_from (length (free_starts s)) s (dummy s) (dummy s) (free_starts s)
    && leb 1 (count (rover s) (dummy s ∷ free_starts s))
