-- Effects one after the other that fit, and what they need that a sound segment has.
use Prim.Native.Nat.{ℕ, suc, ◌+◌, ◌-◌, ◌≤◌}
use mathlib.Core.Path.{◌≡◌, refl, sym, ◌∙◌, ap}
use mathlib.Core.Bool.{Bool, true, false, true≢false}
use mathlib.Core.List.{List, [], ◌∷◌}
use native.Mathlib.Omega.{arith}
use lib.ListN.{length}
use Rattle.descriptor.specs.declared.Target.{Target}
use Rattle.descriptor.specs.declared.Target.TheVariants.{Local, Global}
use Rattle.descriptor.specs.Inverse.{TargetFits}
use Rattle.segment.specs.State.{sbase, lbase}
use Rattle.segment.specs.Stack.{last_lbase_at, code_word_at}
use Rattle.segment.specs.Cells.{cell}
use Rattle.segment.specs.Machine.{Frame, map_frames}
use Rattle.segment.specs.View.{frames_from, words, view}
use Rattle.segment.proofs.Runs.{downward-length}
use Rattle.manual.specs.Effects.{Effect, jumps, current_cells}
use Rattle.manual.specs.Seen.{no_older}
use Rattle.effects.specs.Perform.{perform, wanted}
use Rattle.effects.specs.Seen.{temporaries}
use Rattle.effects.specs.Sound.{Chain, bottom, upon, Sound}
use Rattle.effects.specs.Fits.{Addressable, CanReplace, CanLeave, Fits}
use Rattle.frame_theorems.proofs.Frames.{frames-bottom, frames-next}
use Rattle.effects_theorems.proofs.Sound.{bounds}
use Rattle.effects_theorems.proofs.Variables.{variable-place}
use Rattle.plan_theorems.specs.Fitting.{Fitting}

module _ (s : List ℕ) (e : Effect) (h : Fits s e) where
  pub only : Fitting s (e ∷ [])
  only = record { first = h; once = tt; all = (h, tt) }

  pub and_then : (d : Effect) → ((t : List ℕ) → wanted t d ≡ 0) → Fits (perform s e) d → Fitting s (e ∷ d ∷ [])
  and_then d q k = record { first = h; once = (q, tt); all = (h, (k, tt)) }

  pub then-jumps : (next : ℕ) → Fitting s (e ∷ jumps next ∷ [])
  then-jumps next = and_then (jumps next) (λ t. refl) tt

  pub and-then-jumps : (d : Effect) → ((t : List ℕ) → wanted t d ≡ 0) → Fits (perform s e) d → (next : ℕ) → Fitting s (e ∷ d ∷ jumps next ∷ [])
  and-then-jumps d q k next = record { first = h; once = (q, (λ t. refl, tt)); all = (h, (k, (tt, tt))) }

-- ---- what is there before

-- the address of a variable has sixteen bits
pub target_fits : (s : List ℕ) → Sound s → (t : Target) → Addressable s t → TargetFits t
target_fits s g (Local a) h = omega (arith, (variable-place s g (Local a) h).within, (bounds g).short)
target_fits s g (Global q) h = omega (arith, (variable-place s g (Global q) h).within, (bounds g).short)

-- operands that are taken leave room for a result
pub can-replace : (s : List ℕ) → Sound s → (n : ℕ) → n ≤ temporaries s → 1 ≤ n → CanReplace s n
can-replace s g n h k = record { taken = h; room = omega (arith, g.fits) }

-- ---- a frame that can be left

older-map : {A B : Type 0} (f : A → B) (l : List (Frame A)) → no_older (map_frames f l) ≡ no_older l
older-map f [] = refl
older-map f (r ∷ []) = refl
older-map f (r ∷ q ∷ l) = refl

module _ (s : List ℕ) (g : Sound s) (n : ℕ) (inner : no_older (view s).frames ≡ false) (cells : n ≤ length (current_cells (words s).frames)) where
  frame-cells : last_lbase_at s (lbase s) + 2 + n ≤ lbase s
  unfolding view words
  frame-cells = go g.chain
    where
      go : Chain s (lbase s) → last_lbase_at s (lbase s) + 2 + n ≤ lbase s
      go (bottom q) =
          let e = frames-bottom (lbase s) s (lbase s) (sbase s) (last_lbase_at s (lbase s)) (code_word_at s (lbase s)) refl refl refl (omega arith) in
          absurd (true≢false (ap no_older (sym e) ∙ sym (older-map (cell s) (frames_from (suc (lbase s)) s (lbase s))) ∙ inner))
      go (upon q c) =
          let e = frames-next (lbase s) s (lbase s) (sbase s) (last_lbase_at s (lbase s)) (code_word_at s (lbase s)) refl refl refl (omega arith) in
          omega (
            arith,
            q,
            cells,
            ap (λ (l : List (Frame ℕ)). length (current_cells l)) e,
            downward-length s (sbase s + (last_lbase_at s (lbase s) + 2)) (lbase s - (last_lbase_at s (lbase s) + 2)),
          )

  pub can-leave : temporaries s ≡ 0 → (result : Bool) → (result ≡ true → 1 ≤ n) → CanLeave s n result
  can-leave e result some = record { empty = omega (arith, e, g.above); cells = frame-cells; some = some }
