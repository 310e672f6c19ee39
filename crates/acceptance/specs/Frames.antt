-- Test 16, frames: "each frame's function in its directory, last LBASE falling down to the bottom frame, which starts at 0,
-- every other frame starting above the older one's two words, and LTOP at least LBASE + 1", with decision 8 of
-- docs/DECISIONS.md. Assumes nothing.
use Rattle.std.specs.Prelude.{ℕ, zero, suc, ◌+◌, ◌^◌, Bool, false, cond, ◌&&◌, ◌≡◌, List, length, leb, ltb, eqb}
use Rattle.segment.specs.State.{ltop, lbase}
use Rattle.segment.specs.Stack.{last_lbase_at, code_word_at, alternate_bit, function_number}
use Rattle.acceptance.specs.declared.frames.Frame.{Frame}
use Rattle.procedure.specs.Directory.{selected, has_function, nargs_of, nlocals_of}

-- The procedure segment of the function that a frame's second word names.
abbrev pub frame_segment : List ℕ → List ℕ → ℕ → List ℕ
frame_segment regular alternate w = selected (eqb (alternate_bit w) 1) regular alternate

-- Bits 31–28 are zero and the function is in its directory.
unfoldable pub known : List ℕ → List ℕ → ℕ → Bool
known regular alternate w = ltb w (2 ^ 28) && has_function (frame_segment regular alternate w) (function_number w)

-- Its arguments, and its arguments and locals.
unfoldable pub arguments : List ℕ → List ℕ → ℕ → ℕ
arguments regular alternate w = nargs_of (frame_segment regular alternate w) (function_number w)

unfoldable pub variables : List ℕ → List ℕ → ℕ → ℕ
variables regular alternate w = arguments regular alternate w + nlocals_of (frame_segment regular alternate w) (function_number w)

-- The frames from the one at `base` down, where `has` says which functions there are and `size` how many variables each has.
-- The bottom frame names itself and starts at 0; another starts at last LBASE + 2 or above.
unfoldable pub frames_pass : ℕ → (ℕ → Bool) → (ℕ → ℕ) → List ℕ → ℕ → Bool
frames_pass zero has size s base = false
frames_pass (suc fuel) has size s base =
    let older = frames_pass fuel has size s (last_lbase_at s base) in
    has (code_word_at s base)
    && cond (eqb (last_lbase_at s base) base) (eqb (size (code_word_at s base)) base)
    (leb (last_lbase_at s base + 2 + size (code_word_at s base)) base && older)

unfoldable pub frames_test : List ℕ → List ℕ → List ℕ → Bool
frames_test s regular alternate =
    leb (lbase s + 1) (ltop s) && frames_pass (length s) (known regular alternate) (variables regular alternate) s (lbase s)

-- What the code reads of the frame at `base`: its two words, and how many arguments and variables its function has.
pub record FrameAt (s regular alternate : List ℕ) (base : ℕ) (frame : Frame) : Type 0 where
  pub last : frame.last.0 ≡ last_lbase_at s base
  pub code : frame.code ≡ code_word_at s base
  pub arguments : frame.arguments ≡ arguments regular alternate (code_word_at s base)
  pub variables : frame.variables ≡ variables regular alternate (code_word_at s base)
