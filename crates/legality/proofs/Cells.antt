-- A word that may stand in an argument or a temporary, and a cell that may: the same, where all that it may name is seen.
use Prim.Native.Nat.{ℕ, suc, ◌+◌, ◌-◌, ◌^◌, ◌<◌, ◌≤◌}
use mathlib.Core.Path.{◌≡◌, sym, ◌∙◌, ap, subst}
use mathlib.Core.Bool.{true, false}
use mathlib.Core.List.{List, ◌∷◌}
use mathlib.Core.Logic.{inl, inr, ⊎_elim}
use native.Mathlib.Omega.{arith}
use lib.ListN.{get_or, length, length-map}
use Rattle.descriptor.specs.declared.Target.{Target}
use Rattle.descriptor.specs.declared.Target.TheVariants.{Local, Global}
use Rattle.descriptor.specs.Fields.{is_array, address}
use Rattle.descriptor.specs.Kinds.{segment, stack}
use Rattle.descriptor.specs.Inverse.{target_word}
use Rattle.segment.specs.State.{sbase, ltop, lbase, blockptr}
use Rattle.segment.specs.Blocks.{part}
use Rattle.segment.specs.Stack.{stack_at, downward}
use Rattle.segment.specs.Cells.{Cell, undefined, indirect, cell}
use Rattle.segment.specs.Machine.{Frame}
use Rattle.segment.specs.View.{words, view}
use Rattle.segment.proofs.Runs.{part_length, downward-length}
use Rattle.manual.specs.Effects.{look, InFrames}
use Rattle.acceptance.specs.Cells.{is_indirect}
use Rattle.acceptance.specs.Structure as on_words
use Rattle.legality.specs.Legal.{DirectCell, NamesDirect, Allowed}
use Rattle.legality.proofs.CellKinds.{target-cell, direct-cell, not-indirect, valid-word}
use Rattle.manual.proofs.Cellwise.{global-in}
use Rattle.legality.proofs.Legal.{direct-allowed}
use Rattle.legality.proofs.Frames.{downward-seen, part-seen}
use Rattle.legality.proofs.Stacked.{Stacked, stacked, variable-low, variable-seen, variable-word, variable-in, look_is}

module _ (s : List ℕ) where
  pub globals-length : length (view s).globals ≡ blockptr s - 8
  unfolding view words
  globals-length = length-map (part s 8 (blockptr s - 8)) (cell s) ∙ part_length s 8 (blockptr s - 8)

  pub global-at : (i : ℕ) → i < blockptr s - 8 → get_or (view s).globals i undefined ≡ cell s (get_or s (8 + i) 0)
  unfolding view words
  global-at i h = part-seen s 8 (blockptr s - 8) i h

  pub global-word : (g : ℕ) → 8 ≤ g → g < blockptr s → get_or (view s).globals (g - 8) undefined ≡ cell s (get_or s g 0)
  global-word g l h =
      let e : 8 + (g - 8) ≡ g = omega arith in
      rw e at (global-at (g - 8) (omega arith))

  pub look-global : (g : ℕ) → 8 ≤ g → g < blockptr s → look undefined (Global (segment g)) (view s) ≡ cell s (get_or s g 0)
  look-global g l h = rw (global-in (view s).globals g l) (global-word g l h)

  pub temporaries-length : length (view s).temporaries ≡ ltop s - (lbase s + 1)
  unfolding view words
  temporaries-length =
      length-map (downward s (sbase s + lbase s + 2) (ltop s - (lbase s + 1))) (cell s) ∙ downward-length s (sbase s + lbase s + 2) (ltop s - (lbase s + 1))

  pub temporary-at : (i : ℕ) → i < ltop s - (lbase s + 1) → get_or (view s).temporaries i undefined ≡ cell s (stack_at s (ltop s - i))
  unfolding view words
  temporary-at i h =
      let e : sbase s + lbase s + 2 + (ltop s - (lbase s + 1)) - 1 - i ≡ sbase s + (ltop s - i) = omega arith in
      rw e at (downward-seen s (sbase s + lbase s + 2) (ltop s - (lbase s + 1)) i h)

  pub temporary-word : (i : ℕ) → lbase s + 2 ≤ i → i < ltop s + 1 → get_or (view s).temporaries (ltop s - i) undefined ≡ cell s (stack_at s i)
  temporary-word i l u =
      let e : ltop s - (ltop s - i) ≡ i = omega arith in
      rw e at (temporary-at (ltop s - i) (omega arith))

-- All frames of the segment.
module _ (s regular alternate older : List ℕ) (chain : on_words.FrameChain s regular alternate (lbase s) older) where
  pub whole : Stacked s regular alternate (lbase s + 2) (lbase s ∷ older) (view s).frames
  unfolding view words
  whole = stacked s regular alternate older (suc (lbase s)) (lbase s) (omega arith) chain

  pub look-local : (a : ℕ) → InFrames a (view s).frames → look undefined (Local (stack a)) (view s) ≡ cell s (stack_at s a)
  look-local a h = look_is s regular alternate whole a h

  module _ (A : ℕ → Type 0) {d : ℕ} {frames : List ℕ} {l : List (Frame Cell)} (t : Stacked s regular alternate d frames l)
      (within : (a : ℕ) → on_words.VariableOf s regular alternate frames a → on_words.VariableOf s regular alternate (lbase s ∷ older) a) where
    seen-there : (a : ℕ) → on_words.VariableOf s regular alternate frames a → look undefined (Local (stack a)) (view s) ≡ cell s (stack_at s a)
    seen-there a v = look-local a (variable-in s regular alternate whole a (within a v))

    points-word : (w : ℕ) (target : Target) → w ≡ target_word target → NamesDirect regular alternate (view s) l target → on_words.DirectOrIndirect A s regular alternate frames w
    points-word w (Global g) e h =
        let k : g.0 < blockptr s = omega (arith, h.names.1, globals-length s) in
        inr (inl (record {
          target = g.0;
          word = e;
          low = h.names.0;
          high = k;
          direct = not-indirect s (get_or s g.0 0) (subst DirectCell (look-global s g.0 h.names.0 k) h.direct);
        }))
    points-word w (Local a) e h =
        let v = variable-word s regular alternate t a.0 h.names in
        inr (inr (record {
          target = a.0;
          word = e;
          variable = v;
          direct = not-indirect s (stack_at s a.0) (subst DirectCell (seen-there a.0 v) h.direct);
        }))

    pub allowed-word : (w : ℕ) → (is_array w ≡ true → A (address w)) → Allowed regular alternate (view s) l (cell s w) → on_words.DirectOrIndirect A s regular alternate frames w
    allowed-word w named h = ⊎_elim (λ k. inl k) (λ p. points-word w p.target p.word p.holds) (valid-word A s w named (Allowed regular alternate (view s) l) (λ z. z) h)

    module _ (near : blockptr s ≤ 2 ^ 16) (short : lbase s + 2 ≤ 2 ^ 16) where
      fits : (a : ℕ) → on_words.VariableOf s regular alternate frames a → a < 2 ^ 16
      fits a v = omega (arith, variable-low s regular alternate whole a (within a v))

      pub word-allowed : ((g : ℕ) → 8 ≤ g → g < blockptr s → on_words.Direct A (get_or s g 0))
          → ((a : ℕ) → on_words.VariableOf s regular alternate (lbase s ∷ older) a → is_indirect (stack_at s a) ≡ false → on_words.Direct A (stack_at s a))
          → (w : ℕ) → on_words.DirectOrIndirect A s regular alternate frames w → Allowed regular alternate (view s) l (cell s w)
      word-allowed globals variables w (inl k) = direct-allowed regular alternate (view s) l (cell s w) (direct-cell s A w k)
      word-allowed globals variables w (inr (inl g)) =
          let e : cell s w ≡ indirect (Global (segment g.target)) = ap (cell s) g.word ∙ target-cell s (Global (segment g.target)) (omega (arith, g.high)) in
          subst (Allowed regular alternate (view s) l) (sym e) (record {
            names = (g.low, omega (arith, g.high, globals-length s));
            direct = subst DirectCell (sym (look-global s g.target g.low g.high)) (direct-cell s A (get_or s g.target 0) (globals g.target g.low g.high));
          })
      word-allowed globals variables w (inr (inr v)) =
          let e : cell s w ≡ indirect (Local (stack v.target)) = ap (cell s) v.word ∙ target-cell s (Local (stack v.target)) (fits v.target v.variable) in
          subst (Allowed regular alternate (view s) l) (sym e) (record {
            names = variable-seen s regular alternate t v.target v.variable;
            direct = subst DirectCell (sym (seen-there v.target v.variable))
                (direct-cell s A (stack_at s v.target) (variables v.target (within v.target v.variable) v.direct));
          })
