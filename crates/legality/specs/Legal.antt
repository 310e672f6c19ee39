-- Tests 16 and 17 told by the cells of a machine: which functions its frames run, and where an indirect word may stand and what
-- it may name. An accepted segment is a sound one whose view is legal. Document 01: "Indirect words stand only in arguments
-- (target a global or a variable of an older frame) and temporaries (own frame too), and never target a cell holding another.
-- Undefined may stand in any cell." Assumes nothing.
use Rattle.std.specs.Prelude.{ℕ, ◌+◌, ◌*◌, ◌^◌, ◌≤◌, ◌<◌, ◌≡◌, true, ◌⊎◌, List, [], ◌∷◌, get_or, length}
use Rattle.descriptor.specs.declared.Target.{Target}
use Rattle.descriptor.specs.declared.Target.TheVariants.{Local, Global}
use Rattle.segment.specs.Cells.{Cell, undefined, indirect, value, invalid}
use Rattle.segment.specs.Machine.{Frame, Machine, depth_of_frames}
use Rattle.manual.specs.Effects.{look, AddressableIn}
use Rattle.acceptance.specs.Frames.{known, arguments, variables}

-- The second word of a frame without its PCTR: it says which function the frame runs.
abbrev pub function_word : Frame Cell → ℕ
function_word r = r.function * 2 ^ 16

-- ---- cells

-- A scalar, an array or undefined.
abbrev pub DirectCell : Cell → Type 0
DirectCell undefined = Unit {0}
DirectCell (indirect t) = ⊥
DirectCell (value shape ravel) = Unit {0}
DirectCell invalid = ⊥

-- The stack address `a` is a variable of one of these frames: one of the highest cells of its frame.
abbrev pub VariableIn : List ℕ → List ℕ → List (Frame Cell) → ℕ → Type 0
VariableIn regular alternate [] a = ⊥
VariableIn regular alternate (r ∷ older) a =
    ((depth_of_frames older + length r.cells ≤ a + variables regular alternate (function_word r)) × (a < depth_of_frames older + length r.cells))
    ⊎ VariableIn regular alternate older a

-- What an indirect word may name: a global, or a variable of one of these frames.
abbrev pub MayName : List ℕ → List ℕ → Machine Cell → List (Frame Cell) → Target → Type 0
MayName regular alternate m frames (Global g) = AddressableIn (Global g) m
MayName regular alternate m frames (Local a) = VariableIn regular alternate frames a.0

-- It names one, and what it names holds no indirect word.
pub record NamesDirect (regular alternate : List ℕ) (m : Machine Cell) (frames : List (Frame Cell)) (t : Target) : Type 0 where
  pub names : MayName regular alternate m frames t
  pub direct : DirectCell (look undefined t m)

abbrev pub Allowed : List ℕ → List ℕ → Machine Cell → List (Frame Cell) → Cell → Type 0
Allowed regular alternate m frames undefined = Unit {0}
Allowed regular alternate m frames (indirect t) = NamesDirect regular alternate m frames t
Allowed regular alternate m frames (value shape ravel) = Unit {0}
Allowed regular alternate m frames invalid = ⊥

-- ---- frames

-- The cells of a frame from the highest down: its locals, its arguments, and then the older frame's temporaries.
pub record LegalFrame (regular alternate : List ℕ) (m : Machine Cell) (r : Frame Cell) (older : List (Frame Cell)) : Type 0 where
  pub function : known regular alternate (function_word r) ≡ true
  pub cells : variables regular alternate (function_word r) ≤ length r.cells
  pub locals : (i : ℕ) → i + arguments regular alternate (function_word r) < variables regular alternate (function_word r)
      → DirectCell (get_or r.cells i undefined)
  pub others : (i : ℕ) → i < length r.cells → Allowed regular alternate m older (get_or r.cells i undefined)

-- The bottom frame has its variables alone.
pub data LegalFrames (regular alternate : List ℕ) (m : Machine Cell) : List (Frame Cell) → Type 0 where
  bottom : {r : Frame Cell} → LegalFrame regular alternate m r [] → length r.cells ≡ variables regular alternate (function_word r)
      → LegalFrames regular alternate m (r ∷ [])
  upon : {r q : Frame Cell} {older : List (Frame Cell)} → LegalFrame regular alternate m r (q ∷ older) → LegalFrames regular alternate m (q ∷ older)
      → LegalFrames regular alternate m (r ∷ q ∷ older)

pub record Legal (regular alternate : List ℕ) (m : Machine Cell) : Type 0 where
  pub frames : LegalFrames regular alternate m m.frames
  pub globals : (i : ℕ) → i < length m.globals → DirectCell (get_or m.globals i undefined)
  pub temporaries : (i : ℕ) → i < length m.temporaries → Allowed regular alternate m m.frames (get_or m.temporaries i undefined)
