-- The frames of a chain, as words and as seen: the same variables, and at each the cell of its word.
use Prim.Native.Nat.{ℕ, zero, suc, ◌+◌, ◌-◌, ◌<◌, ◌≤◌}
use mathlib.Core.Path.{◌≡◌, refl, ◌∙◌}
use mathlib.Core.List.{List, [], ◌∷◌}
use mathlib.Core.Logic.{inl, inr}
use native.Mathlib.Omega.{arith}
use lib.ListN.{length}
use Rattle.segment.specs.Stack.{stack_at, code_word_at}
use Rattle.segment.specs.Cells.{Cell, undefined, cell}
use Rattle.segment.specs.Machine.{Frame, depth_of_frames}
use Rattle.manual.specs.Effects.{index_in, look_frames, current_cells, InFrames}
use Rattle.acceptance.specs.Frames.{variables}
use Rattle.acceptance.specs.Structure as on_words
use Rattle.legality.specs.Legal.{VariableIn}
use Rattle.manual.proofs.Cellwise.{look-here, look-below, index_in_lem, in-depth}
use Rattle.legality.proofs.FunctionWord.{same-variables}
use Rattle.legality.proofs.Frames.{seen_frames, seen_frame, frame-length, frame-word, seen-bottom, seen-upon}

-- So many words of the stack hold these frames, by their LBASEs and as seen; each has its variables.
pub data Stacked (s regular alternate : List ℕ) : ℕ → List ℕ → List (Frame Cell) → Type 0 where
  none : Stacked s regular alternate 0 [] []
  frame : {start : ℕ} {frames : List ℕ} {l : List (Frame Cell)} (base : ℕ) → start + variables regular alternate (code_word_at s base) ≤ base
      → Stacked s regular alternate start frames l → Stacked s regular alternate (base + 2) (base ∷ frames) (seen_frame s base start ∷ l)

module _ (s regular alternate : List ℕ) where
  pub stacked : (older : List ℕ) (n base : ℕ) → base < n → on_words.FrameChain s regular alternate base older
      → Stacked s regular alternate (base + 2) (base ∷ older) (seen_frames n s base)
  stacked older zero base l h = absurd (omega arith)
  stacked [] (suc n) base l h = rw (seen-bottom n s base h.itself) (frame {start = 0} base (omega (arith, h.start)) none)
  stacked (next ∷ older) (suc n) base l h =
      rw (seen-upon n s base next h.0.last (omega (arith, h.0.start))) (frame base h.0.start (stacked older n next (omega (arith, h.0.start)) h.1))

  pub depth_is : {d : ℕ} {frames : List ℕ} {l : List (Frame Cell)} → Stacked s regular alternate d frames l → depth_of_frames l ≡ d
  depth_is none = refl
  depth_is (frame {start = start} base h t) = omega (arith, depth_is t, frame-length s base start, h)

  -- the current frame has its variables
  pub current-room : {d base : ℕ} {frames : List ℕ} {l : List (Frame Cell)} → Stacked s regular alternate d (base ∷ frames) l
      → variables regular alternate (code_word_at s base) ≤ length (current_cells l)
  current-room (frame {start = start} base h t) = omega (arith, h, frame-length s base start)

  -- ---- the same variables

  pub variable-seen : {d : ℕ} {frames : List ℕ} {l : List (Frame Cell)} → Stacked s regular alternate d frames l → (a : ℕ)
      → on_words.VariableOf s regular alternate frames a → VariableIn regular alternate l a
  variable-seen none a v = absurd v
  variable-seen (frame {start = start} base h t) a (inl v) =
      let e = same-variables (code_word_at s base) regular alternate in
      inl (omega (arith, v, depth_is t, frame-length s base start, e), omega (arith, v, depth_is t, frame-length s base start))
  variable-seen (frame base h t) a (inr v) = inr (variable-seen t a v)

  pub variable-word : {d : ℕ} {frames : List ℕ} {l : List (Frame Cell)} → Stacked s regular alternate d frames l → (a : ℕ)
      → VariableIn regular alternate l a → on_words.VariableOf s regular alternate frames a
  variable-word none a v = absurd v
  variable-word (frame {start = start} base h t) a (inl v) =
      let e = same-variables (code_word_at s base) regular alternate in
      inl (omega (arith, v, h, depth_is t, frame-length s base start, e), omega (arith, v, h, depth_is t, frame-length s base start))
  variable-word (frame base h t) a (inr v) = inr (variable-word t a v)

  pub variable-in : {d : ℕ} {frames : List ℕ} {l : List (Frame Cell)} → Stacked s regular alternate d frames l → (a : ℕ)
      → on_words.VariableOf s regular alternate frames a → InFrames a l
  variable-in none a v = absurd v
  variable-in (frame {start = start} base h t) a (inl v) =
      inl (omega (arith, v, h, depth_is t), omega (arith, v, h, depth_is t, frame-length s base start))
  variable-in (frame base h t) a (inr v) = inr (variable-in t a v)

  pub variable-low : {d : ℕ} {frames : List ℕ} {l : List (Frame Cell)} → Stacked s regular alternate d frames l → (a : ℕ)
      → on_words.VariableOf s regular alternate frames a → a < d
  variable-low {l = l} t a v = omega (arith, in-depth a l (variable-in t a v), depth_is t)

  -- ---- what is seen at a cell's address

  pub look_is : {d : ℕ} {frames : List ℕ} {l : List (Frame Cell)} → Stacked s regular alternate d frames l → (a : ℕ) → InFrames a l
      → look_frames undefined a l ≡ cell s (stack_at s a)
  look_is none a k = absurd k
  look_is (frame {start = start} {l = l} base h t) a (inl k) =
      let n = frame-length s base start in
      let d = depth_is t in
      let i : index_in (seen_frame s base start).cells l a ≡ base - 1 - a = index_in_lem (seen_frame s base start).cells l a k.1 ∙ omega (arith, h, n, d) in
      look-here a undefined (seen_frame s base start) l k.0
      ∙ rw i (frame-word s base start a (omega (arith, k, d)) (omega (arith, k, h, n, d)))
  look_is (frame {start = start} {l = l} base h t) a (inr k) = look-below a undefined (seen_frame s base start) l (in-depth a l k) ∙ look_is t a k
