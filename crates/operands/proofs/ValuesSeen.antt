-- The operand by its word is what the manual reads of the cell, an array operand's block is whole, and where its elements stand.
use Prim.Native.Nat.{ℕ, ◌+◌, ◌-◌}
use mathlib.Core.Path.{◌≡◌, refl, ap, ap₂, ◌∙◌}
use mathlib.Core.Bool.{Bool, true, false, cond}
use mathlib.Core.List.{List}
use lib.ListN.{length}
use Rattle.descriptor.specs.declared.address.SegmentAddress.{SegmentAddress}
use Rattle.descriptor.specs.declared.Scalar.{Scalar}
use Rattle.descriptor.specs.declared.Kind.{Kind}
use Rattle.descriptor.specs.declared.Kind.TheVariants as K
use Rattle.descriptor.specs.Kinds.{segment, kind_of}
use Rattle.segment.specs.State.{sbase, ltop}
use Rattle.segment.specs.Blocks.{rank_at, product, shape_at, elements_at}
use Rattle.segment.specs.declared.blocks.Part.{Part}
use Rattle.segment.specs.Parts.{part_of}
use Rattle.segment.specs.Cells.{value, invalid}
use Rattle.segment.proofs.Runs.{part_length}
use Rattle.effects.specs.Sources.{operand_at}
use Rattle.effects.specs.Seen.{whole, read_kind, read}
use Rattle.manual.specs.Scalars.{value_of}
use Rattle.manual.specs.Loads as loads
use Rattle.operands.specs.declared.reading.Value.{Value}
use Rattle.operands.specs.declared.reading.Value.TheVariants as values
use Rattle.std.specs.Prelude.{Some, None}
use Rattle.operands.specs.Operands.{operand_of_kind, operand_of, is_undefined_kind, is_undefined_word, held, Stands, standing, value_seen}
use Rattle.operands.proofs.Whole.{Whole, whole-facts}

defined-of-kind : (k : Kind) → (k ≡ K.Undefined → ⊥) → false ≡ is_undefined_kind k
defined-of-kind (K.Scalar k) other = refl
defined-of-kind (K.Array a) other = refl
defined-of-kind (K.Indirect t) other = refl
defined-of-kind K.Undefined other = absurd (other refl)
defined-of-kind K.Invalid other = refl

pub defined : (w : ℕ) (k : Kind) → k ≡ kind_of w → (k ≡ K.Undefined → ⊥) → false ≡ is_undefined_word w
unfolding is_undefined_word
defined w k kind other = defined-of-kind k other ∙ rw kind

module _ (s : List ℕ) (w : ℕ) where
  value-of-kind : (k : Kind) → value_of (read_kind s w k) ≡ value_seen s (operand_of_kind s w k)
  value-of-kind (K.Scalar k) = refl
  value-of-kind (K.Array a) = by_whole (whole s a.0)
    where
      by_whole : (b : Bool) → value_of (cond b (value (shape_at s a.0) (elements_at s a.0)) invalid) ≡ value_seen s (cond b (Some (values.Array a)) None)
      by_whole true = refl
      by_whole false = refl
  value-of-kind (K.Indirect t) = refl
  value-of-kind K.Undefined = refl
  value-of-kind K.Invalid = refl

  pub value-seen : value_of (read s w) ≡ value_seen s (operand_of s w)
  unfolding read operand_of
  value-seen = value-of-kind (kind_of w)

  other-of-kind : (k : Kind) → ((x : Scalar) → k ≡ K.Scalar x → ⊥) → ((a : SegmentAddress) → k ≡ K.Array a → ⊥) → None ≡ operand_of_kind s w k
  other-of-kind (K.Scalar k) scalar array = absurd (scalar k refl)
  other-of-kind (K.Array a) scalar array = absurd (array a refl)
  other-of-kind (K.Indirect t) scalar array = refl
  other-of-kind K.Undefined scalar array = refl
  other-of-kind K.Invalid scalar array = refl

  -- of a kind that is no scalar and no array
  pub no_value : (k : Kind) → k ≡ kind_of w → ((x : Scalar) → k ≡ K.Scalar x → ⊥) → ((a : SegmentAddress) → k ≡ K.Array a → ⊥) → None ≡ operand_of s w
  unfolding operand_of
  no_value k kind scalar array = other-of-kind k scalar array ∙ rw kind

  undefined-of-kind : (k : Kind) → loads.is_undefined (read_kind s w k) ≡ is_undefined_kind k
  undefined-of-kind (K.Scalar k) = refl
  undefined-of-kind (K.Array a) = by_whole (whole s a.0)
    where
      by_whole : (b : Bool) → loads.is_undefined (cond b (value (shape_at s a.0) (elements_at s a.0)) invalid) ≡ false
      by_whole true = refl
      by_whole false = refl
  undefined-of-kind (K.Indirect t) = refl
  undefined-of-kind K.Undefined = refl
  undefined-of-kind K.Invalid = refl

  pub undefined-seen : loads.is_undefined (read s w) ≡ is_undefined_word w
  unfolding read is_undefined_word
  undefined-seen = undefined-of-kind (kind_of w)

  array-of-kind : (k : Kind) (block : SegmentAddress) → operand_of_kind s w k ≡ Some (values.Array block) → whole s block.0 ≡ true
  array-of-kind (K.Scalar k) block e = cc
  array-of-kind (K.Array a) block e = by_whole (whole s a.0) refl e
    where
      by_whole : (b : Bool) → whole s a.0 ≡ b → cond b (Some (values.Array a)) None ≡ Some (values.Array block) → whole s block.0 ≡ true
      by_whole true holds e = cc
      by_whole false holds e = cc
  array-of-kind (K.Indirect t) block e = cc
  array-of-kind K.Undefined block e = cc
  array-of-kind K.Invalid block e = cc

  pub array_whole : (block : SegmentAddress) → operand_of s w ≡ Some (values.Array block) → whole s block.0 ≡ true
  unfolding operand_of
  array_whole block e = array-of-kind (kind_of w) block e

  scalar-of-kind : (k : Kind) (x : ℕ) → operand_of_kind s w k ≡ Some (values.Scalar x) → w ≡ x
  scalar-of-kind (K.Scalar k) x e = cc
  scalar-of-kind (K.Array a) x e = by_whole (whole s a.0) e
    where
      by_whole : (b : Bool) → cond b (Some (values.Array a)) None ≡ Some (values.Scalar x) → w ≡ x
      by_whole true e = cc
      by_whole false e = cc
  scalar-of-kind (K.Indirect t) x e = cc
  scalar-of-kind K.Undefined x e = cc
  scalar-of-kind K.Invalid x e = cc

  pub scalar-word : (x : ℕ) → operand_of s w ≡ Some (values.Scalar x) → w ≡ x
  unfolding operand_of
  scalar-word x e = scalar-of-kind (kind_of w) x e

-- ---- where an operand's elements stand

abbrev at : ℕ → ℕ → Part
at start count = record { start = segment start; count = count }

module _ (s : List ℕ) (i : ℕ) (v : Value) (stands : Stands s i v) where
  pub stands-whole : (block : SegmentAddress) → v ≡ values.Array block → Whole s block.0
  stands-whole block same = whole-facts s block.0 (array_whole s (operand_at s i) block (stands ∙ ap Some same))

  -- the words there are the value's
  pub standing-words : part_of s (standing s i v) ≡ (held s v).ravel
  unfolding elements_at
  standing-words = by_kind v refl
    where
      by_kind : (u : Value) → v ≡ u → part_of s (standing s i u) ≡ (held s u).ravel
      by_kind (values.Scalar x) same = rw (scalar-word s (operand_at s i) x (stands ∙ ap Some same))
      by_kind (values.Array block) same = refl

-- what the code finds there
module _ (s : List ℕ) (i : ℕ) where
  pub in_cell : (v : Value) (x : ℕ) (start : SegmentAddress) → v ≡ values.Scalar x → start.0 ≡ sbase s + ltop s - i → record { start = start; count = 1 } ≡ standing s i v
  in_cell v x start same here = rw same (ap (λ (n : ℕ). at n 1) here)

  pub in_block : (v : Value) (block start : SegmentAddress) (count : ℕ) → v ≡ values.Array block → start.0 ≡ block.0 + 2 + rank_at s block.0
      → count ≡ length (elements_at s block.0) → record { start = start; count = count } ≡ standing s i v
  unfolding elements_at
  in_block v block start count same here all =
      rw same (ap₂ at here (all ∙ part_length s (block.0 + 2 + rank_at s block.0) (product (shape_at s block.0))))
