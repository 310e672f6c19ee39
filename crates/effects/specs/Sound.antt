-- What the words of a segment must be for its effects to mean what the manual says: storage that its cells own, a stack that
-- lies in the segment, and the chain of frames. It is what an accepted segment is, apart from the procedure segments and the
-- kinds of cells. Proved to hold after every effect. Assumes nothing.
use Rattle.std.specs.Prelude.{ℕ, ◌+◌, ◌≤◌, ◌<◌, ◌≡◌, List, length}
use Rattle.segment.specs.State.{sbase, ltop, lbase}
use Rattle.segment.specs.Stack.{last_lbase_at}
use Rattle.storage.specs.Owned.{Owned}
use Rattle.segment.specs.View.{owners}

-- Test 16: last LBASE falls down to the bottom frame, which names itself and starts at 0; every other frame starts above the
-- older one's two words.
pub data Chain (s : List ℕ) : ℕ → Type 0 where
  bottom : {base : ℕ} → last_lbase_at s base ≡ base → Chain s base
  upon : {base : ℕ} → last_lbase_at s base + 2 ≤ base → Chain s (last_lbase_at s base) → Chain s base

pub record Sound (s : List ℕ) : Type 0 where
  -- array storage is whole, and every count is the number of cells that point to the array
  pub own : Owned s (owners s)
  pub fits : sbase s + ltop s < length s
  pub above : lbase s + 1 ≤ ltop s
  pub chain : Chain s (lbase s)
