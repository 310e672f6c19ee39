-- The view of an accepted segment is legal.
use Prim.Native.Nat.{ℕ, zero, suc, ◌+◌, ◌-◌, ◌/◌, ◌^◌, ◌<◌, ◌≤◌}
use mathlib.Core.Path.{◌≡◌, sym, ◌∙◌, subst}
use mathlib.Core.Bool.{true, false}
use mathlib.Core.List.{List, [], ◌∷◌}
use mathlib.Core.Logic.{inl, inr}
use native.Mathlib.Omega.{arith}
use lib.ListN.{get_or}
use borrow.Author.Tests.{eq-eqb}
use Rattle.segment.specs.State.{ltop, lbase, blockptr}
use Rattle.segment.specs.Stack.{stack_at, code_word_at}
use Rattle.segment.specs.Cells.{Cell, cell}
use Rattle.storage.specs.Owned.{ArrayIn}
use Rattle.segment.specs.Machine.{Frame, Machine}
use Rattle.segment.specs.View.{words, view}
use Rattle.acceptance_storage.proofs.Tests.{never, by_le}
use Rattle.acceptance.specs.Frames.{known, variables}
use Rattle.acceptance.specs.Cells.{is_indirect}
use Rattle.acceptance.specs.Structure.{frame_start, locals_start, VariableOf, DirectOrIndirect, FrameCells, StackCells, Accepted}
use Rattle.acceptance.specs.Structure as on_words
use Rattle.acceptance.proofs.Owners.{first_frame}
use Rattle.effects.specs.Sound as sound
use Rattle.legality.specs.Legal.{DirectCell, Allowed, LegalFrame, LegalFrames, bottom, Legal}
use Rattle.legality.specs.Accepted.{LegalSegment}
use Rattle.legality.proofs.Legal.{upon-on}
use Rattle.legality.proofs.FunctionWord.{same_known, same-arguments, same-variables}
use Rattle.legality.proofs.CellKinds.{direct-cell}
use Rattle.legality.proofs.Frames.{seen_frames, seen_frame, frame-length, frame_at, seen-bottom, seen-upon}
use Rattle.legality.proofs.Stacked.{Stacked, none, stacked, variable-low}
use Rattle.legality.proofs.Cells.{globals-length, global-at, temporaries-length, temporary-at, whole, word-allowed}

-- ---- what a variable holds that is no indirect word

module _ (A : ℕ → Type 0) (s regular alternate : List ℕ) (near : blockptr s ≤ 2 ^ 16) where
  no_pointer : (frames : List ℕ) → ((a : ℕ) → VariableOf s regular alternate frames a → a < 2 ^ 16)
      → (w : ℕ) → DirectOrIndirect A s regular alternate frames w → is_indirect w ≡ false → on_words.Direct A w
  no_pointer frames fits w (inl k) n = k
  no_pointer frames fits w (inr (inl g)) n = absurd (never (sym n ∙ eq-eqb (w / 2 ^ 17) 0x180 (omega (arith, g.word, g.high))))
  no_pointer frames fits w (inr (inr v)) n = absurd (never (sym n ∙ eq-eqb (w / 2 ^ 17) 0x180 (omega (arith, v.word, fits v.target v.variable))))

  own-valid : (base top : ℕ) (older : List ℕ) → ((a : ℕ) → VariableOf s regular alternate older a → a < 2 ^ 16) → FrameCells A s regular alternate base top older
      → (a : ℕ) → frame_start s regular alternate base ≤ a → a < base → is_indirect (stack_at s a) ≡ false → on_words.Direct A (stack_at s a)
  own-valid base top older fits c a l u n =
      by_le (locals_start s regular alternate base) a (λ m. c.locals a m u) (λ m. no_pointer older fits (stack_at s a) (c.arguments a l m) n)

  variables-valid : (older : List ℕ) (base top : ℕ) → ((a : ℕ) → VariableOf s regular alternate (base ∷ older) a → a < 2 ^ 16) → StackCells A s regular alternate base top older
      → (a : ℕ) → VariableOf s regular alternate (base ∷ older) a → is_indirect (stack_at s a) ≡ false → on_words.Direct A (stack_at s a)
  variables-valid [] base top fits c a (inl v) n = own-valid base top [] (λ b u. fits b (inr u)) c a v.0 v.1 n
  variables-valid [] base top fits c a (inr v) n = absurd v
  variables-valid (next ∷ older) base top fits c a (inl v) n = own-valid base top (next ∷ older) (λ b u. fits b (inr u)) c.0 a v.0 v.1 n
  variables-valid (next ∷ older) base top fits c a (inr v) n = variables-valid older next (frame_start s regular alternate base) (λ b u. fits b (inr u)) c.1 a v n

-- ---- frames

-- One frame, over the older ones, whose temporaries stand from `start` up to it.
module _ (A : ℕ → Type 0) (s regular alternate : List ℕ) (m : Machine Cell) (start base top : ℕ) (frames : List ℕ) (l : List (Frame Cell))
    (has : known regular alternate (code_word_at s base) ≡ true) (room : start + variables regular alternate (code_word_at s base) ≤ base)
    (allow : (w : ℕ) → DirectOrIndirect A s regular alternate frames w → Allowed regular alternate m l (cell s w))
    (c : FrameCells A s regular alternate base top frames)
    (rest : (i : ℕ) → start ≤ i → i < frame_start s regular alternate base → DirectOrIndirect A s regular alternate frames (stack_at s i)) where
  each : (i : ℕ) → start ≤ i → i < base → DirectOrIndirect A s regular alternate frames (stack_at s i)
  each i k u =
      by_le (frame_start s regular alternate base) i
      (λ d. by_le (locals_start s regular alternate base) i (λ e. inl (c.locals i e u)) (λ e. c.arguments i d e)) (rest i k)

  legal-frame : LegalFrame regular alternate m (seen_frame s base start) l
  legal-frame =
      let v = same-variables (code_word_at s base) regular alternate in
      let a = same-arguments (code_word_at s base) regular alternate in
      let n = frame-length s base start in
      record {
        function = same_known (code_word_at s base) regular alternate ∙ has;
        cells = omega (arith, v, n, room);
        locals = λ i k. subst DirectCell (sym (frame_at s base start i (omega (arith, k, v, a, room))))
            (direct-cell s A (stack_at s (base - 1 - i)) (c.locals (base - 1 - i) (omega (arith, k, v, a, room)) (omega (arith, k, v, a, room))));
        others = λ i k. subst (Allowed regular alternate m l) (sym (frame_at s base start i (omega (arith, k, n))))
            (allow (stack_at s (base - 1 - i)) (each (base - 1 - i) (omega (arith, k, n)) (omega (arith, k, n))));
      }

module _ (s regular alternate : List ℕ) (h : Accepted s regular alternate) where
  abbrev A : ℕ → Type 0
  A a = (size : ℕ) × ArrayIn (blockptr s) h.owned.blocks a size

  near : blockptr s ≤ 2 ^ 16
  near = omega (arith, h.head.room, h.head.top, h.longest)

  short : lbase s + 2 ≤ 2 ^ 16
  short = omega (arith, h.top, h.head.top, h.longest)

  frames : Stacked s regular alternate (lbase s + 2) (lbase s ∷ h.older) (view s).frames
  frames = whole s regular alternate h.older h.chain

  allow : {d : ℕ} {fs : List ℕ} {l : List (Frame Cell)} → Stacked s regular alternate d fs l
      → ((a : ℕ) → VariableOf s regular alternate fs a → VariableOf s regular alternate (lbase s ∷ h.older) a)
      → (w : ℕ) → DirectOrIndirect A s regular alternate fs w → Allowed regular alternate (view s) l (cell s w)
  allow t within =
      word-allowed s regular alternate h.older h.chain A t within near short h.globals
      (variables-valid A s regular alternate near h.older (lbase s) (ltop s + 1) (λ a v. omega (arith, short, variable-low s regular alternate frames a v)) h.cells)

  legal-frames : (older : List ℕ) (n base top : ℕ) → base < n → on_words.FrameChain s regular alternate base older → StackCells A s regular alternate base top older
      → ((a : ℕ) → VariableOf s regular alternate (base ∷ older) a → VariableOf s regular alternate (lbase s ∷ h.older) a)
      → LegalFrames regular alternate (view s) (seen_frames n s base)
  legal-frames older zero base top l k c within = absurd (omega arith)
  legal-frames [] (suc n) base top l k c within =
      rw (seen-bottom n s base k.itself)
      (bottom
      (legal-frame A s regular alternate (view s) 0 base top [] [] k.function (omega (arith, k.start)) (allow none (λ a v. absurd v)) c (λ i d e. absurd (omega (arith, e, k.start))))
      (omega (arith, frame-length s base 0, same-variables (code_word_at s base) regular alternate, k.start)))
  legal-frames (next ∷ older) (suc n) base top l k c within =
      let t = stacked s regular alternate older n next (omega (arith, k.0.start)) k.1 in
      rw (seen-upon n s base next k.0.last (omega (arith, k.0.start)))
      (upon-on
      (legal-frame A s regular alternate (view s) (next + 2) base top (next ∷ older) (seen_frames n s next) k.0.function k.0.start (allow t (λ a v. within a (inr v))) c.0
      (first_frame A older c.1).temporaries)
      (legal-frames older n next (frame_start s regular alternate base) (omega (arith, k.0.start)) k.1 c.1 (λ a v. within a (inr v))))

  legal : Legal regular alternate (view s)
  unfolding view words
  legal = record {
    frames = legal-frames h.older (suc (lbase s)) (lbase s) (ltop s + 1) (omega arith) h.chain h.cells (λ a v. v);
    globals = λ i k. subst DirectCell (sym (global-at s i (omega (arith, k, globals-length s))))
        (direct-cell s A (get_or s (8 + i) 0) (h.globals (8 + i) (omega arith) (omega (arith, k, globals-length s))));
    temporaries = λ i k. subst (Allowed regular alternate (view s) (view s).frames) (sym (temporary-at s i (omega (arith, k, temporaries-length s))))
        (allow frames (λ a v. v) (stack_at s (ltop s - i))
        ((first_frame A h.older h.cells).temporaries (ltop s - i) (omega (arith, k, temporaries-length s)) (omega (arith, k, temporaries-length s))));
  }

-- ---- the whole segment

bare-chain : (s regular alternate older : List ℕ) (base : ℕ) → on_words.FrameChain s regular alternate base older → sound.Chain s base
bare-chain s regular alternate [] base k = sound.bottom {base = base} k.itself
bare-chain s regular alternate (next ∷ older) base k =
    sound.upon {base = base} (omega (arith, k.0.last, k.0.start)) (subst (sound.Chain s) (sym k.0.last) (bare-chain s regular alternate older next k.1))

pub split : (s regular alternate : List ℕ) → Accepted s regular alternate → LegalSegment s regular alternate
split s regular alternate h = record {
  shortest = h.shortest;
  longest = h.longest;
  procedures = h.procedures;
  head = h.head;
  sound = record { own = h.owned; fits = h.head.top; above = h.top; chain = bare-chain s regular alternate h.older (lbase s) h.chain };
  legal = legal s regular alternate h;
}
