-- What tests 10–18 accept is a sound segment whose view is legal: the structure on words (acceptance/specs/Structure) and the one
-- on cells (specs/Legal) say the same. Instructions are proved to keep the second; a run starts from the first.
-- Proved in proofs/Accepted. Assumes nothing.
use Rattle.std.specs.Prelude.{ℕ, ◌≤◌, ◌≡◌, Bool, List, length}
use Rattle.segment.specs.State.{lbase}
use Rattle.segment.specs.Stack.{code_word_at, function_number}
use Rattle.procedure.specs.Directory.{result_of}
use Rattle.procedure.specs.Refusal.{procedure_refusal}
use Rattle.segment.specs.View.{view}
use Rattle.acceptance_storage.specs.Head.{Head}
use Rattle.acceptance.specs.Frames.{frame_segment, variables}
use Rattle.acceptance.specs.Structure.{Accepted}
use Rattle.effects.specs.Sound.{Sound}
use Rattle.effects.specs.Alike.{HasFrame}
use Rattle.legality.specs.Legal.{Legal}

-- A segment as the machine's theorems have it: lengths, procedure segments, state words, storage and frames, and every cell.
pub record LegalSegment (s regular alternate : List ℕ) : Type 0 where
  pub shortest : 32 ≤ length s
  pub longest : length s ≤ 16384
  pub procedures : procedure_refusal regular alternate ≡ 0
  pub head : Head s
  pub sound : Sound s
  pub legal : Legal regular alternate (view s)

-- Of the current frame's function: its arguments and locals, and whether it has a result.
abbrev pub current_variables : List ℕ → List ℕ → List ℕ → ℕ
current_variables s regular alternate = variables regular alternate (code_word_at s (lbase s))

abbrev pub current_result : List ℕ → List ℕ → List ℕ → Bool
current_result s regular alternate = result_of (frame_segment regular alternate (code_word_at s (lbase s))) (function_number (code_word_at s (lbase s)))

pub record LegalTheorems : Type 0 where
  pub split : (s regular alternate : List ℕ) → Accepted s regular alternate → LegalSegment s regular alternate
  pub join : (s regular alternate : List ℕ) → LegalSegment s regular alternate → Accepted s regular alternate
  -- what an instruction of the current function may rely on
  pub runs : (s regular alternate : List ℕ) → Accepted s regular alternate → HasFrame s (current_variables s regular alternate) (current_result s regular alternate)
