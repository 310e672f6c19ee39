-- The frames of the view by the words of the segment: how many cells each has, where each cell stands, how deep the older ones
-- are, and what is seen at a stack address.
use Prim.Native.Nat.{ℕ, suc, ◌+◌, ◌-◌, ◌/◌, ◌^◌, ◌<◌, ◌≤◌}
use mathlib.Core.Path.{◌≡◌, sym, ◌∙◌, ap}
use mathlib.Core.List.{List, [], ◌∷◌, map}
use native.Mathlib.Omega.{arith}
use lib.ListN.{get_or, length, length-map, get_or-map}
use borrow.Author.Tests.{le-leb, lt-leb}
use Rattle.descriptor.specs.Fields.{undefined_word}
use Rattle.segment.specs.State.{sbase}
use Rattle.segment.specs.Blocks.{part}
use Rattle.segment.specs.Stack.{stack_at, last_lbase_at, code_word_at, pctr, downward}
use Rattle.segment.specs.Cells.{Cell, undefined, cell}
use Rattle.segment.specs.Machine.{Frame, map_frames}
use Rattle.segment.specs.View.{frames_from}
use Rattle.segment.proofs.Runs.{get_d_part, downward-length, get_or-downward, undefined-cell}

-- what is seen of a run of words
module _ (s : List ℕ) where
  seen_at : (l : List ℕ) (i : ℕ) → get_or (map (cell s) l) i undefined ≡ cell s (get_or l i undefined_word)
  seen_at l i = ap (λ (c : Cell). get_or (map (cell s) l) i c) (sym (undefined-cell s)) ∙ get_or-map (cell s) l i undefined_word

  pub downward-seen : (a n i : ℕ) → i < n → get_or (map (cell s) (downward s a n)) i undefined ≡ cell s (get_or s (a + n - 1 - i) 0)
  downward-seen a n i h = seen_at (downward s a n) i ∙ ap (cell s) (get_or-downward s a n i undefined_word h)

  pub part-seen : (a n i : ℕ) → i < n → get_or (map (cell s) (part s a n)) i undefined ≡ cell s (get_or s (a + i) 0)
  part-seen a n i h = seen_at (part s a n) i ∙ ap (cell s) (get_d_part s a n i undefined_word h)

-- ---- frames

abbrev pub seen_frames : ℕ → List ℕ → ℕ → List (Frame Cell)
seen_frames n s base = map_frames (cell s) (frames_from n s base)

-- The frame at `base`, whose cells start at `start`.
abbrev pub seen_frame : List ℕ → ℕ → ℕ → Frame Cell
seen_frame s base start =
    record { function = code_word_at s base / 2 ^ 16; pctr = pctr (code_word_at s base); cells = map (cell s) (downward s (sbase s + start) (base - start)) }

module _ (s : List ℕ) (base start : ℕ) where
  pub frame-length : length (seen_frame s base start).cells ≡ base - start
  frame-length = length-map (downward s (sbase s + start) (base - start)) (cell s) ∙ downward-length s (sbase s + start) (base - start)

  pub frame_at : (i : ℕ) → i < base - start → get_or (seen_frame s base start).cells i undefined ≡ cell s (stack_at s (base - 1 - i))
  frame_at i h =
      let e : sbase s + start + (base - start) - 1 - i ≡ sbase s + (base - 1 - i) = omega arith in
      rw e at (downward-seen s (sbase s + start) (base - start) i h)

  pub frame-word : (i : ℕ) → start ≤ i → i < base → get_or (seen_frame s base start).cells (base - 1 - i) undefined ≡ cell s (stack_at s i)
  frame-word i l u =
      let e : base - 1 - (base - 1 - i) ≡ i = omega arith in
      rw e at (frame_at (base - 1 - i) (omega arith))

module _ (n : ℕ) (s : List ℕ) (base : ℕ) where
  pub seen-bottom : last_lbase_at s base ≡ base → seen_frames (suc n) s base ≡ seen_frame s base 0 ∷ []
  unfolding frames_from
  seen-bottom h = rw (le-leb base (last_lbase_at s base) (omega arith))

  pub seen-upon : (next : ℕ) → last_lbase_at s base ≡ next → next < base → seen_frames (suc n) s base ≡ seen_frame s base (next + 2) ∷ seen_frames n s next
  unfolding frames_from
  seen-upon next e h = rw (e, lt-leb base next h)
