-- A sound segment whose view is legal is accepted.
use Prim.Native.Nat.{ℕ, zero, suc, ◌+◌, ◌-◌, ◌<◌, ◌≤◌}
use mathlib.Core.Path.{◌≡◌, refl, sym, ◌∙◌, subst}
use mathlib.Core.Bool.{true}
use mathlib.Core.List.{List, [], ◌∷◌}
use mathlib.Core.Logic.{inr}
use native.Mathlib.Omega.{arith}
use lib.ListN.{get_or, length}
use Rattle.descriptor.specs.Fields.{is_array, address}
use Rattle.segment.specs.State.{ltop, lbase, blockptr}
use Rattle.segment.specs.Stack.{stack_at, last_lbase_at, code_word_at}
use Rattle.segment.specs.Cells.{Cell, cell}
use Rattle.storage.specs.Heap.{count}
use Rattle.storage.specs.Owned.{ArrayIn}
use Rattle.segment.specs.Machine.{Frame, Machine, cells_of_frames, depth_of_frames}
use Rattle.segment.specs.View.{frames_from, words, owners, view}
use Rattle.acceptance.specs.Frames.{variables}
use Rattle.acceptance.specs.Structure.{frame_start, VariableOf, DirectOrIndirect, FrameCells, StackCells, Accepted}
use Rattle.acceptance.specs.Structure as on_words
use Rattle.effects.specs.Sound.{Chain}
use Rattle.effects.specs.Sound as sound
use Rattle.legality.specs.Legal.{function_word, DirectCell, Allowed, LegalFrame, LegalFrames, bottom, upon}
use Rattle.legality.specs.Accepted.{LegalSegment}
use Rattle.legality.proofs.Legal.{first}
use Rattle.legality.proofs.FunctionWord.{same_known, same-arguments, same-variables, most-arguments}
use Rattle.legality.proofs.CellKinds.{direct_word}
use Rattle.legality.proofs.Frames.{seen_frames, seen_frame, frame-length, frame-word, seen-bottom, seen-upon}
use Rattle.legality.proofs.Stacked.{Stacked, none, stacked, depth_is}
use Rattle.legality.proofs.Cells.{globals-length, global-word, temporaries-length, temporary-word, whole, allowed-word}
use Rattle.legality.proofs.Owners.{bottom-holds, first_holds, older-hold, frames-own, temporary-owns, global-owns, named}

-- ---- legal frames taken apart

module _ {regular alternate : List ℕ} {m : Machine Cell} {r : Frame Cell} where
  alone : LegalFrames regular alternate m (r ∷ []) → length r.cells ≡ variables regular alternate (function_word r)
  alone (bottom f e) = e

  older-ones : {l : List (Frame Cell)} → 0 < depth_of_frames l → LegalFrames regular alternate m (r ∷ l) → LegalFrames regular alternate m l
  older-ones k (bottom f e) = absurd (omega arith)
  older-ones k (upon f t) = t

-- ---- the chain

module _ (s regular alternate : List ℕ) (m : Machine Cell) where
  deep : {base : ℕ} → Chain s base → (n : ℕ) → base < n → 0 < depth_of_frames (seen_frames n s base)
  deep {base} c zero l = absurd (omega arith)
  deep {base} (sound.bottom q) (suc n) l = rw (seen-bottom n s base q) (omega arith)
  deep {base} (sound.upon q c) (suc n) l = rw (seen-upon n s base (last_lbase_at s base) refl (omega arith)) (omega arith)

  full-chain : {base : ℕ} → Chain s base → (n : ℕ) → base < n → LegalFrames regular alternate m (seen_frames n s base)
      → (older : List ℕ) × on_words.FrameChain s regular alternate base older
  full-chain {base} c zero l h = absurd (omega arith)
  full-chain {base} (sound.bottom q) (suc n) l h =
      let k = rw (seen-bottom n s base q) at h in (
        [],
        record {
          function = sym (same_known (code_word_at s base) regular alternate) ∙ (first k).function;
          itself = q;
          start = omega (arith, alone k, frame-length s base 0, same-variables (code_word_at s base) regular alternate);
        },
      )
  full-chain {base} (sound.upon q c) (suc n) l h =
      let k = rw (seen-upon n s base (last_lbase_at s base) refl (omega arith)) at h in
      let r = full-chain {base = last_lbase_at s base} c n (omega arith) (older-ones (deep c n (omega arith)) k) in (
        last_lbase_at s base ∷ r.0,
        (
          record {
            function = sym (same_known (code_word_at s base) regular alternate) ∙ (first k).function;
            last = refl;
            start = omega (arith, (first k).cells, q, frame-length s base (last_lbase_at s base + 2), same-variables (code_word_at s base) regular alternate);
          },
          r.1,
        ),
      )

-- ---- cells

-- One frame, over the older ones, whose temporaries stand from `start` up to it.
module _ (A : ℕ → Type 0) (s regular alternate : List ℕ) (m : Machine Cell) (start base : ℕ) (frames : List ℕ) (l : List (Frame Cell))
    (room : start + variables regular alternate (code_word_at s base) ≤ base)
    (arrays : (i : ℕ) → start ≤ i → i < base → is_array (stack_at s i) ≡ true → A (address (stack_at s i)))
    (allowed : (w : ℕ) → (is_array w ≡ true → A (address w)) → Allowed regular alternate m l (cell s w) → DirectOrIndirect A s regular alternate frames w)
    (f : LegalFrame regular alternate m (seen_frame s base start) l) where
  cell-word : (i : ℕ) → start ≤ i → i < base → DirectOrIndirect A s regular alternate frames (stack_at s i)
  cell-word i k u =
      allowed (stack_at s i) (arrays i k u)
      (subst (Allowed regular alternate m l) (frame-word s base start i k u) (f.others (base - 1 - i) (omega (arith, frame-length s base start))))

  frame-cells : (top : ℕ) → ((i : ℕ) → base + 2 ≤ i → i < top → DirectOrIndirect A s regular alternate (base ∷ frames) (stack_at s i))
      → FrameCells A s regular alternate base top frames
  frame-cells top temporaries =
      let v = same-variables (code_word_at s base) regular alternate in
      let a = same-arguments (code_word_at s base) regular alternate in
      record {
        temporaries = temporaries;
        arguments = λ i k u. cell-word i (omega (arith, room, k)) (omega (arith, room, u, most-arguments (code_word_at s base) regular alternate));
        locals = λ i k u. direct_word A s (stack_at s i) (arrays i (omega (arith, room, k)) u)
            (subst DirectCell (frame-word s base start i (omega (arith, room, k)) u) (f.locals (base - 1 - i) (omega (arith, room, k, u, v, a))));
      }

module _ (s regular alternate : List ℕ) (h : LegalSegment s regular alternate) where
  abbrev A : ℕ → Type 0
  A a = (size : ℕ) × ArrayIn (blockptr s) h.sound.own.blocks a size

  module _ (all : List ℕ) (chain : on_words.FrameChain s regular alternate (lbase s) all) where
    allowed : {d : ℕ} {frames : List ℕ} {l : List (Frame Cell)} → Stacked s regular alternate d frames l
        → ((a : ℕ) → VariableOf s regular alternate frames a → VariableOf s regular alternate (lbase s ∷ all) a)
        → (w : ℕ) → (is_array w ≡ true → A (address w)) → Allowed regular alternate (view s) l (cell s w) → DirectOrIndirect A s regular alternate frames w
    allowed t within = allowed-word s regular alternate all chain A t within

    stack-cells : (older : List ℕ) (n base top : ℕ) → base < n → on_words.FrameChain s regular alternate base older → LegalFrames regular alternate (view s) (seen_frames n s base)
        → ((a : ℕ) → VariableOf s regular alternate (base ∷ older) a → VariableOf s regular alternate (lbase s ∷ all) a)
        → ((w : ℕ) → 0 < count w (cells_of_frames (frames_from n s base)) → 0 < count w (owners s))
        → ((i : ℕ) → base + 2 ≤ i → i < top → DirectOrIndirect A s regular alternate (base ∷ older) (stack_at s i))
        → StackCells A s regular alternate base top older
    stack-cells older zero base top l k f within own temporaries = absurd (omega arith)
    stack-cells [] (suc n) base top l k f within own temporaries =
        frame-cells A s regular alternate (view s) 0 base [] [] (omega (arith, k.start))
        (λ i d u. named s h.sound.own (stack_at s i) (own (stack_at s i) (bottom-holds n s base k.itself i u)))
        (allowed none (λ a v. absurd v)) (first (rw (seen-bottom n s base k.itself) at f)) top temporaries
    stack-cells (next ∷ older) (suc n) base top l k f within own temporaries =
        let below : next < base = omega (arith, k.0.start) in
        let t = stacked s regular alternate older n next (omega arith) k.1 in
        let g = rw (seen-upon n s base next k.0.last below) at f in
        let names : (i : ℕ) → next + 2 ≤ i → i < base → is_array (stack_at s i) ≡ true → A (address (stack_at s i))
        = λ i d u. named s h.sound.own (stack_at s i) (own (stack_at s i) (first_holds n s base next k.0.last below i d u)) in (
          frame-cells A s regular alternate (view s) (next + 2) base (next ∷ older) (seen_frames n s next) k.0.start names (allowed t (λ a v. within a (inr v)))
              (first g) top temporaries,
          stack-cells older n next (frame_start s regular alternate base) (omega arith) k.1
              (older-ones (omega (arith, depth_is s regular alternate t)) g) (λ a v. within a (inr v))
              (λ w c. own w (older-hold n s base next k.0.last below w c))
              (λ i d u. cell-word A s regular alternate (view s) (next + 2) base (next ∷ older) (seen_frames n s next) k.0.start names (allowed t (λ a v. within a (inr v)))
              (first g) i d (omega (arith, u))),
        )

  pub join : Accepted s regular alternate
  unfolding view words
  join =
      let r = full-chain s regular alternate (view s) h.sound.chain (suc (lbase s)) (omega arith) h.legal.frames in
      record {
        shortest = h.shortest;
        longest = h.longest;
        procedures = h.procedures;
        head = h.head;
        owned = h.sound.own;
        top = h.sound.above;
        older = r.0;
        chain = r.1;
        globals = λ i l u. direct_word A s (get_or s i 0) (named s h.sound.own (get_or s i 0) (global-owns s i l u))
            (subst DirectCell (global-word s i l u) (h.legal.globals (i - 8) (omega (arith, globals-length s))));
        cells = stack-cells r.0 r.1 r.0 (suc (lbase s)) (lbase s) (ltop s + 1) (omega arith) r.1 h.legal.frames (λ a v. v) (frames-own s)
            (λ i l u. allowed r.0 r.1 (whole s regular alternate r.0 r.1) (λ a v. v) (stack_at s i) (named s h.sound.own (stack_at s i) (temporary-owns s i l u))
            (subst (Allowed regular alternate (view s) (view s).frames) (temporary-word s i l u) (h.legal.temporaries (ltop s - i) (omega (arith, temporaries-length s)))));
      }
