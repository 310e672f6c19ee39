-- A join is copied straight. Decision 102: the code copies the elements of a join from where they stand if the request leaves their
-- words as they are (`straight`), and else gathers them in the scratch. The theorem says that in a sound segment, which an accepted
-- one is, the test passes. Which parts the code copies is `standing` of operands/specs/Operands.antt: an operand's own cell, or the
-- elements of the array that the cell points to, which `scalars` and `arrays` say here. Proved in proofs/Straight. Assumes nothing.
use Rattle.std.specs.Prelude.{ℕ, ◌+◌, ◌-◌, ◌^◌, ◌≤◌, ◌<◌, ◌≡◌, true, ◌≢◌, List, length}
use Rattle.descriptor.specs.Fields.{array_word}
use Rattle.segment.specs.State.{sbase, ltop, blockptr}
use Rattle.segment.specs.Blocks.{rank_at, shape_at, product}
use Rattle.segment.specs.declared.blocks.Part.{Part}
use Rattle.storage.specs.Request.{find}
use Rattle.storage.specs.Heap.{Block}
use Rattle.storage.specs.Owned.{ArrayIn}
use Rattle.storage_joins.specs.Joined.{straight}
use Rattle.effects.specs.Sources.{operand_at}
use Rattle.effects.specs.Seen.{temporaries}
use Rattle.effects.specs.Sound.{Sound}

-- The part is one word of the stack, which begins at SBASE.
pub record IsCell (s : List ℕ) (part : Part) : Type 0 where
  pub above : sbase s ≤ part.start.0
  pub within : part.start.0 < length s
  pub one : part.count ≡ 1

-- The part is the elements of the array at `x`: behind the two words and the lengths of its block, as many as the lengths make.
pub record IsElements (s : List ℕ) (x : ℕ) (part : Part) : Type 0 where
  pub starts : part.start.0 ≡ x + 2 + rank_at s x
  pub many : part.count ≡ product (shape_at s x)

-- What a join may copy.
pub data Copyable (s : List ℕ) (blocks : List Block) (part : Part) : Type 0 where
  in_cell : IsCell s part → Copyable s blocks part
  in_block : (x size : ℕ) → ArrayIn (blockptr s) blocks x size → IsElements s x part → Copyable s blocks part

pub record StraightTheorem : Type 0 where
  -- The cell of the i-th operand may be copied, and so may the elements of the array that it points to.
  pub scalars : (s : List ℕ) (sound : Sound s) (i : ℕ) (part : Part) → i < temporaries s → part.start.0 ≡ sbase s + ltop s - i → part.count ≡ 1
      → Copyable s sound.own.blocks part
  pub arrays : (s : List ℕ) (sound : Sound s) (i x : ℕ) (part : Part) → i < temporaries s → operand_at s i ≡ array_word x → x < 2 ^ 16
      → IsElements s x part → Copyable s sound.own.blocks part
  -- Whatever block a request finds, for however many words, two such parts are copied straight.
  pub copied : (s : List ℕ) (sound : Sound s) (size : ℕ) (first second : Part) → Copyable s sound.own.blocks first
      → Copyable s sound.own.blocks second → find s size ≢ 0 → straight s (find s size) first second ≡ true
