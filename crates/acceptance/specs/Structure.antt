-- What tests 10–18 accept, as a structure: array storage whose counts are right (Owned), the chain of frames, and every cell
-- by its kind. The theorem goes both ways; proofs/Structure.antt proves it. A reader must believe: the records named here say
-- what document 01 says under "Data segment" from "A frame" to "Undefined may stand in any cell", and in its table.
-- Assumes nothing.
use Rattle.std.specs.Prelude.{ℕ, ◌+◌, ◌-◌, ◌≤◌, ◌<◌, ◌≡◌, true, false, ◌⊎◌, List, [], ◌∷◌, get_or, length}
use Rattle.descriptor.specs.Fields.{is_array, address, undefined_word, local_word, global_word}
use Rattle.descriptor.specs.Kinds.{is_scalar}
use Rattle.segment.specs.State.{ltop, lbase, blockptr}
use Rattle.segment.specs.Stack.{stack_at, last_lbase_at, code_word_at}
use Rattle.procedure.specs.Refusal.{procedure_refusal}
use Rattle.storage.specs.Owned.{ArrayIn, Owned}
use Rattle.segment.specs.View.{owners}
use Rattle.acceptance_storage.specs.Head.{Head}
use Rattle.acceptance.specs.Frames.{known, arguments, variables}
use Rattle.acceptance.specs.Cells.{is_indirect}
use Rattle.acceptance.specs.Refusal.{refusal}

-- ---- frames

-- The bottom frame names itself and starts at 0.
pub record Bottom (s regular alternate : List ℕ) (base : ℕ) : Type 0 where
  pub function : known regular alternate (code_word_at s base) ≡ true
  pub itself : last_lbase_at s base ≡ base
  pub start : variables regular alternate (code_word_at s base) ≡ base

-- Every other frame names an older one and starts above its two words.
pub record Above (s regular alternate : List ℕ) (base older : ℕ) : Type 0 where
  pub function : known regular alternate (code_word_at s base) ≡ true
  pub last : last_lbase_at s base ≡ older
  pub start : older + 2 + variables regular alternate (code_word_at s base) ≤ base

-- The frame at `base`, and under it the older ones, each by its LBASE.
abbrev pub FrameChain : List ℕ → List ℕ → List ℕ → ℕ → List ℕ → Type 0
FrameChain s regular alternate base [] = Bottom s regular alternate base
FrameChain s regular alternate base (next ∷ older) = Above s regular alternate base next × FrameChain s regular alternate next older

-- Where a frame's arguments, and its locals, start.
abbrev pub frame_start : List ℕ → List ℕ → List ℕ → ℕ → ℕ
frame_start s regular alternate base = base - variables regular alternate (code_word_at s base)

abbrev pub locals_start : List ℕ → List ℕ → List ℕ → ℕ → ℕ
locals_start s regular alternate base = frame_start s regular alternate base + arguments regular alternate (code_word_at s base)

-- A variable, argument or local, of one of these frames.
abbrev pub VariableOf : List ℕ → List ℕ → List ℕ → List ℕ → ℕ → Type 0
VariableOf s regular alternate [] a = ⊥
VariableOf s regular alternate (base ∷ older) a = ((frame_start s regular alternate base ≤ a) × (a < base)) ⊎ VariableOf s regular alternate older a

-- ---- cells

-- A scalar, undefined, or the word of an array: `Array` says which addresses are those of arrays.
abbrev pub Direct : (ℕ → Type 0) → ℕ → Type 0
Direct Array w = (is_scalar w ≡ true) ⊎ ((w ≡ undefined_word) ⊎ ((is_array w ≡ true) × Array (address w)))

-- An indirect word that names a global, or a variable of one of these frames; its target holds no indirect word.
pub record NamesGlobal (s : List ℕ) (w : ℕ) : Type 0 where
  pub target : ℕ
  pub word : w ≡ global_word target
  pub low : 8 ≤ target
  pub high : target < blockptr s
  pub direct : is_indirect (get_or s target 0) ≡ false

pub record NamesVariable (s regular alternate frames : List ℕ) (w : ℕ) : Type 0 where
  pub target : ℕ
  pub word : w ≡ local_word target
  pub variable : VariableOf s regular alternate frames target
  pub direct : is_indirect (stack_at s target) ≡ false

abbrev pub DirectOrIndirect : (ℕ → Type 0) → List ℕ → List ℕ → List ℕ → List ℕ → ℕ → Type 0
DirectOrIndirect Array s regular alternate frames w = Direct Array w ⊎ (NamesGlobal s w ⊎ NamesVariable s regular alternate frames w)

-- The cells of the frame at `base`, over the older ones, with its temporaries below `top`.
pub record FrameCells (Array : ℕ → Type 0) (s regular alternate : List ℕ) (base top : ℕ) (older : List ℕ) : Type 0 where
  pub temporaries : (i : ℕ) → base + 2 ≤ i → i < top → DirectOrIndirect Array s regular alternate (base ∷ older) (stack_at s i)
  pub arguments : (i : ℕ) → frame_start s regular alternate base ≤ i → i < locals_start s regular alternate base
      → DirectOrIndirect Array s regular alternate older (stack_at s i)
  pub locals : (i : ℕ) → locals_start s regular alternate base ≤ i → i < base → Direct Array (stack_at s i)

-- The cells of all frames: the words between a frame's start and the two words of the older one are the older one's temporaries.
abbrev pub StackCells : (ℕ → Type 0) → List ℕ → List ℕ → List ℕ → ℕ → ℕ → List ℕ → Type 0
StackCells Array s regular alternate base top [] = FrameCells Array s regular alternate base top []
StackCells Array s regular alternate base top (next ∷ older) =
    FrameCells Array s regular alternate base top (next ∷ older)
    × StackCells Array s regular alternate next (frame_start s regular alternate base) older

-- ---- the whole segment

pub record Accepted (s regular alternate : List ℕ) : Type 0 where
  pub shortest : 32 ≤ length s
  pub longest : length s ≤ 16384
  pub procedures : procedure_refusal regular alternate ≡ 0
  pub head : Head s
  -- blocks, ring, array insides; every array word names an array's block; every count is the number of cells, and not zero
  pub owned : Owned s (owners s)
  pub top : lbase s + 1 ≤ ltop s
  -- the LBASEs of the frames under the current one
  pub older : List ℕ
  pub chain : FrameChain s regular alternate (lbase s) older
  pub globals : (i : ℕ) → 8 ≤ i → i < blockptr s → Direct (λ a. (size : ℕ) × ArrayIn (blockptr s) owned.blocks a size) (get_or s i 0)
  pub cells : StackCells (λ a. (size : ℕ) × ArrayIn (blockptr s) owned.blocks a size) s regular alternate (lbase s) (ltop s + 1) older

pub record Structure : Type 0 where
  -- what the table accepts is such a structure, and such a structure is accepted
  pub sound : (s regular alternate : List ℕ) → refusal s regular alternate ≡ 0 → Accepted s regular alternate
  pub complete : (s regular alternate : List ℕ) → Accepted s regular alternate → refusal s regular alternate ≡ 0
