-- Parts of the lent segment: the one that a start and a count name, and what the code hands back of an array's block. That is
-- the shape, and the elements, wherever the block is as test 14 wants it (proofs/Parts.antt); a part that does not lie in the
-- segment is empty. Assumes nothing.
use Rattle.std.specs.Prelude.{ℕ, ◌+◌, ◌-◌, cond, List, [], length, leb}
use Rattle.segment.specs.Blocks.{part, size_at, rank_at}
use Rattle.segment.specs.declared.blocks.Part.{Part}

-- So many words from an address up.
abbrev pub part_of : List ℕ → Part → List ℕ
part_of s p = part s p.start.0 p.count

unfoldable pub within : List ℕ → ℕ → ℕ → List ℕ
within s start count = cond (leb (start + count) (length s)) (part s start count) []

unfoldable pub shape_part : List ℕ → ℕ → List ℕ
shape_part s a = within s (a + 2) (rank_at s a)

-- SIZE tells how many there are.
unfoldable pub elements_part : List ℕ → ℕ → List ℕ
elements_part s a = within s (a + 2 + rank_at s a) (size_at s a - (rank_at s a + 2))
