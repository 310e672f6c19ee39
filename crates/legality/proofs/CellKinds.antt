-- What the words that test 17 tells apart are seen as, and which words are seen so.
use Prim.Native.Nat.{ℕ, ◌+◌, ◌*◌, ◌/◌, ◌%◌, ◌^◌, ◌<◌}
use mathlib.Core.Path.{◌≡◌, refl, ◌∙◌, ap, subst}
use mathlib.Core.Bool.{true, false}
use mathlib.Core.List.{List}
use mathlib.Core.Logic.{◌⊎◌, inl, inr, ⊎_elim}
use native.Mathlib.Omega.{arith}
use lib.Dec.{ltb, eqb}
use borrow.Author.Tests.{ltb-true, ltb-false, eqb-true, eqb-false, eq-eqb}
use Rattle.descriptor.specs.declared.Target.{Target}
use Rattle.descriptor.specs.declared.Target.TheVariants.{Local, Global}
use Rattle.descriptor.specs.declared.Kind.{Kind}
use Rattle.descriptor.specs.declared.Kind.TheVariants as K
use Rattle.descriptor.specs.Fields.{sign, is_float, type_number, rest, is_array, address, undefined_word}
use Rattle.descriptor.specs.Kinds.{segment, stack, kind_of, integer_kind, character_kind, array_kind, indirect_kind, undefined_kind, unsigned_kind, scalar_kind, is_scalar}
use Rattle.descriptor.specs.Inverse.{target_word, TargetFits}
use Rattle.descriptor.proofs.Inverse.{inverse, pick}
use Rattle.segment.specs.Cells.{Cell, indirect, invalid, cell, cell_of_kind}
use Rattle.storage_theorems.proofs.Cells.{array_of}
use Rattle.acceptance_storage.proofs.Tests.{never, fails, by_le}
use Rattle.acceptance.specs.Cells.{is_indirect}
use Rattle.acceptance.specs.Structure as on_words
use Rattle.legality.specs.Legal.{DirectCell}

-- ---- a word told by its kind

abbrev Made : ℕ → Kind → Type 0
Made w (K.Scalar k) = Unit {0}
Made w (K.Array a) = is_array w ≡ true
Made w (K.Indirect t) = (w ≡ target_word t) × TargetFits t
Made w K.Undefined = w ≡ undefined_word
Made w K.Invalid = Unit {0}

typed : (w k : ℕ) → sign w ≡ 0 → ((w / 2 ^ 30 % 2 ≡ 1) → ⊥) → type_number w ≡ k → w ≡ k * 2 ^ 24 + rest w
typed w k s plain e =
    let short : w < 2 ^ 30 = omega (arith, s, plain) in
    omega (arith, short, e)

module _ (w : ℕ) where
  abbrev P : Kind → Type 0
  P = Made w

  kind-made : P (kind_of w)
  unfolding kind_of integer_kind character_kind array_kind indirect_kind undefined_kind unsigned_kind
  kind-made =
      pick P (is_float w) _ _ (λ e. tt) (λ plain.
      pick P (eqb (type_number w) 0) _ _
      (λ e. pick P (ltb 8388607 (rest w)) _ _ (λ e. tt) (λ e. pick P (eqb w (2 ^ 31)) _ _ (λ e. tt) (λ e. tt))) (λ e.
      pick P (eqb (sign w) 0) _ _ (λ s.
      let word : (k : ℕ) → eqb (type_number w) k ≡ true → w ≡ k * 2 ^ 24 + rest w
      = λ k e. typed w k (eqb-true (sign w) 0 s) (eqb-false (w / 2 ^ 30 % 2) 1 plain) (eqb-true (type_number w) k e) in
      pick P (eqb (type_number w) 1) _ _ (λ e. pick P (ltb (rest w) (2 ^ 8)) _ _ (λ e. tt) (λ e. tt)) (λ e.
      pick P (eqb (type_number w) 2) _ _
      (λ k. pick P (ltb (rest w) (2 ^ 16)) _ _ (λ l. eq-eqb (w / 2 ^ 16) 0x200 (omega (arith, word 2 k, ltb-true (rest w) (2 ^ 16) l))) (λ e. tt)) (λ e.
      pick P (eqb (type_number w) 3) _ _
      (λ k. pick P (ltb (rest w) (2 ^ 16)) _ _ (λ l. (word 3 k, ltb-true (rest w) (2 ^ 16) l))
      (λ h. pick P (ltb (rest w) (2 ^ 17)) _ _
      (λ l. (omega (arith, word 3 k, ltb-false (rest w) (2 ^ 16) h), omega (arith, ltb-false (rest w) (2 ^ 16) h, ltb-true (rest w) (2 ^ 17) l))) (λ e. tt))) (λ e.
      pick P (eqb (type_number w) 4) _ _ (λ k. pick P (eqb (rest w) 0) _ _ (λ z. omega (arith, word 4 k, eqb-true (rest w) 0 z)) (λ e. tt)) (λ e. tt)))))
      (λ e. tt)))

-- ---- what a word is seen as

module _ (s : List ℕ) where
  pub target-cell : (t : Target) → TargetFits t → cell s (target_word t) ≡ indirect t
  unfolding cell
  target-cell t h = rw (inverse.read_back (K.Indirect t) h)

  scalar-direct : (w : ℕ) (k : Kind) → scalar_kind k ≡ true → DirectCell (cell_of_kind s w k)
  scalar-direct w (K.Scalar k) h = tt
  scalar-direct w (K.Array a) h = tt
  scalar-direct w (K.Indirect t) h = never h
  scalar-direct w K.Undefined h = tt
  scalar-direct w K.Invalid h = never h

  pub direct-cell : (A : ℕ → Type 0) (w : ℕ) → on_words.Direct A w → DirectCell (cell s w)
  unfolding cell is_scalar
  direct-cell A w (inl e) = scalar-direct w (kind_of w) e
  direct-cell A w (inr (inl e)) = rw (e, inverse.read_back K.Undefined tt) tt
  direct-cell A w (inr (inr k)) = let l : address w < 2 ^ 16 = omega arith in rw (array_of w k.0, inverse.read_back (K.Array (segment (address w))) l) tt

  -- an indirect word is seen as one
  indirect-made : (w : ℕ) → w / 2 ^ 17 ≡ 0x180 → (t : Target) × (w ≡ target_word t) × TargetFits t
  indirect-made w e =
      by_le 1 (w / 2 ^ 16 % 2)
      (λ b. (Global (segment (w % 2 ^ 16)), omega (arith, e, b), omega arith))
      (λ b. (Local (stack (w % 2 ^ 16)), omega (arith, e, b), omega arith))

  pub not-indirect : (w : ℕ) → DirectCell (cell s w) → is_indirect w ≡ false
  not-indirect w h = fails (is_indirect w) (λ e.
      let r = indirect-made w (eqb-true (w / 2 ^ 17) 0x180 e) in
      let c : cell s w ≡ indirect r.0 = ap (cell s) r.1 ∙ target-cell r.0 r.2 in
      subst DirectCell c h)

-- ---- which words are seen so

-- An indirect word of which something holds.
pub record Points (P : Cell → Type 0) (w : ℕ) : Type 0 where
  pub target : Target
  pub word : w ≡ target_word target
  pub fits : TargetFits target
  pub holds : P (indirect target)

module _ (A : ℕ → Type 0) (s : List ℕ) (w : ℕ) (named : is_array w ≡ true → A (address w)) where
  pub valid-word : (P : Cell → Type 0) → (P invalid → ⊥) → P (cell s w) → on_words.Direct A w ⊎ Points P w
  unfolding cell is_scalar
  valid-word P valid = go (kind_of w) refl (kind-made w)
    where
      go : (k : Kind) → kind_of w ≡ k → Made w k → P (cell_of_kind s w k) → on_words.Direct A w ⊎ Points P w
      go (K.Scalar k) e d h = inl (inl (ap scalar_kind e))
      go (K.Array a) e d h = inl (inr (inr (d, named d)))
      go (K.Indirect t) e d h = inr (record { target = t; word = d.0; fits = d.1; holds = h })
      go K.Undefined e d h = inl (inr (inl d))
      go K.Invalid e d h = absurd (valid h)

  pub direct_word : DirectCell (cell s w) → on_words.Direct A w
  direct_word h = ⊎_elim (λ d. d) (λ p. absurd p.holds) (valid-word DirectCell (λ z. z) h)
