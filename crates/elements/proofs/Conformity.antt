-- Operands that conform are paired, and the result has as many elements as its shape says.
use Prim.Native.Nat.{ℕ}
use mathlib.Core.Path.{◌≡◌, refl, sym, ap, ◌∙◌}
use mathlib.Core.Bool.{Bool, true, false, not}
use mathlib.Core.List.{List}
use lib.Dec.{eqb, ltb}
use borrow.Author.Tests.{eqb-true, eqb-false, eq-eqb, ne_eqb}
use native.Mathlib.Omega.{arith}
use lib.ListN.{length}
use Rattle.segment.specs.Blocks.{product}
use Rattle.manual.specs.OrTrap.{gives, trap, stop_if}
use Rattle.manual.specs.Values.{same, conform, extent, is_single}
use Rattle.manual.proofs.Elements.{same_lists}
use Rattle.elements.specs.Answers.{Paired}

-- operands a and b of the shapes s and t
module _ (a b s t shape : List ℕ) (counted-a : length a ≡ product s) (counted-b : length b ≡ product t) (h : conform s (length a) t (length b) ≡ gives shape) where
  -- neither is a single element: the shapes are the same, and the result's
  alike : (length a ≡ 1 → ⊥) → (length b ≡ 1 → ⊥) → (s ≡ t) × (s ≡ shape)
  unfolding conform
  alike p q = go (eqb (length s) (length t)) (same s t) refl refl
    where
      judged : stop_if (not (eqb (length s) (length t))) 5 0 (stop_if (not (same s t)) 6 0 (gives s)) ≡ gives shape
      judged = simp (ne_eqb (length a) 1 p, ne_eqb (length b) 1 q) at h

      go : (u v : Bool) → eqb (length s) (length t) ≡ u → same s t ≡ v → (s ≡ t) × (s ≡ shape)
      go true true e f = let k : gives s ≡ gives shape = rw (e, f) at judged in (same_lists s t f, cc)
      go true false e f = let k : trap 6 0 ≡ gives shape = rw (e, f) at judged in let z : ◌≡◌ {A = ℕ} 0 1 = cc in absurd (omega arith)
      go false v e f = let k : trap 5 0 ≡ gives shape = rw e at judged in let z : ◌≡◌ {A = ℕ} 0 1 = cc in absurd (omega arith)

  pub conform-paired : Paired a b
  conform-paired = record { fits = λ p q. counted-a ∙ ap product (alike p q).0 ∙ sym counted-b }

  -- one has a single element
  first-single : length a ≡ 1 → (u v : Bool) → is_single b ≡ u → ltb (length t) (length s) ≡ v → length b ≡ product shape
  unfolding conform
  first-single p true true q r =
      let k : gives s ≡ gives shape = simp (eq-eqb (length a) 1 p, q, r) at h in
      let e : s ≡ shape = cc in
      eqb-true (length b) 1 q ∙ sym p ∙ counted-a ∙ ap product e
  first-single p true false q r =
      let k : gives t ≡ gives shape = simp (eq-eqb (length a) 1 p, q, r) at h in
      let e : t ≡ shape = cc in
      counted-b ∙ ap product e
  first-single p false v q r =
      let k : gives t ≡ gives shape = simp (eq-eqb (length a) 1 p, q) at h in
      let e : t ≡ shape = cc in
      counted-b ∙ ap product e

  second-single : (length a ≡ 1 → ⊥) → (u : Bool) → is_single b ≡ u → length a ≡ product shape
  unfolding conform
  second-single p true q =
      let k : gives s ≡ gives shape = simp (ne_eqb (length a) 1 p, q) at h in
      let e : s ≡ shape = cc in
      counted-a ∙ ap product e
  second-single p false q = counted-a ∙ ap product (alike p (eqb-false (length b) 1 q)).1

  pub conform-extent : extent a b ≡ product shape
  conform-extent = go (is_single a) refl
    where
      go : (u : Bool) → is_single a ≡ u → extent a b ≡ product shape
      go true p = rw p (first-single (eqb-true (length a) 1 p) (is_single b) (ltb (length t) (length s)) refl refl)
      go false p = rw p (second-single (eqb-false (length a) 1 p) (is_single b) refl)
