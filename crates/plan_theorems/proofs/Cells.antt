-- What a cell of a sound segment is seen as: a value that fits, or none.
use Prim.Native.Nat.{ℕ, zero, suc, ◌+◌, ◌/◌, ◌^◌, ◌<◌}
use mathlib.Core.Path.{◌≡◌, refl, sym, ◌∙◌, ap}
use mathlib.Core.Bool.{Bool, true, false, cond, ◌&&◌}
use mathlib.Core.List.{List, []}
use native.Mathlib.Omega.{arith}
use lib.Dec.{leb, eqb}
use lib.ListN.{length}
use borrow.Author.Tests.{eqb-true}
use Rattle.descriptor.specs.declared.address.SegmentAddress.{SegmentAddress}
use Rattle.descriptor.specs.declared.Kind.{Kind}
use Rattle.descriptor.specs.declared.Kind.TheVariants as K
use Rattle.descriptor.specs.Fields.{is_array, address, array_word}
use Rattle.descriptor.specs.Kinds.{segment, kind_of, scalar_kind, is_scalar}
use Rattle.descriptor.proofs.Arrays.{IfArray, array_kind_lem, kind-array}
use Rattle.segment.specs.Blocks.{size_at, rank_at, part, product, shape_at, elements_at}
use Rattle.segment.specs.Cells.{Cell, undefined, indirect, value, invalid, cell, cell_of_kind}
use Rattle.segment.proofs.Runs.{part_length}
use Rattle.storage.specs.Heap.{count}
use Rattle.storage.specs.Owned.{Owned, Inside}
use Rattle.manual.specs.Values as values
use Rattle.manual.specs.Scalars.{value_of, cell_word}
use Rattle.manual.proofs.Tests.{both_hold}
use Rattle.storage_theorems.proofs.Cells.{array_of}
use Rattle.effects.specs.Seen.{whole, read_kind, read}
use Rattle.scalar_theorems.specs.Validity.{Valid}
use Rattle.segment.specs.Lent.{Words}
use Rattle.plan_theorems.proofs.Given.{Given}
use Rattle.plan_theorems.proofs.Lists.{All, all-count, count-all, all-get_or}
use Rattle.plan_theorems.proofs.Values.{Length, valid-length, Stored, scalar-stored}

abbrev pub CellFits : Cell → Type 0
CellFits undefined = Unit {0}
CellFits (indirect t) = Unit {0}
CellFits (value shape ravel) = Stored (values.value shape ravel)
CellFits invalid = Unit {0}

pub value-given : (c : Cell) → CellFits c → Given Stored (value_of c)
value-given undefined h = tt
value-given (indirect t) h = tt
value-given (value shape ravel) h = h
value-given invalid h = tt

pub word-valid : (c : Cell) → CellFits c → Valid (cell_word c)
word-valid undefined h = valid-length 0 (omega arith)
word-valid (indirect t) h = valid-length 0 (omega arith)
word-valid (value shape ravel) h = all-get_or Valid ravel 0 (valid-length 0 (omega arith)) h.fits.scalars
word-valid invalid h = valid-length 0 (omega arith)

part-words : (s : List ℕ) → Words s → (a n : ℕ) → All (λ w. w < 2 ^ 32) (part s a n)
part-words s h a zero = tt
part-words s h a (suc n) = (h a, part-words s h (a + 1) n)

-- an array's word has its kind
array-address : (w : ℕ) (a : SegmentAddress) → kind_of w ≡ K.Array a → is_array w ≡ true → w ≡ array_word a.0
array-address w a e h =
    let k : kind_of w ≡ K.Array (segment (address w)) = ap kind_of (array_of w h) ∙ array_kind_lem (address w) (omega arith) in
    let q : a ≡ segment (address w) = cc in
    array_of w h ∙ ap (λ (b : SegmentAddress). array_word b.0) (sym q)

module _ {s owners : List ℕ} (o : Owned s owners) (words : Words s) where
  array-fits : (x size : ℕ) → Inside s x size → whole s x ≡ true → Stored (values.value (shape_at s x) (elements_at s x))
  unfolding whole shape_at elements_at
  array-fits x size i e =
      let t = (both_hold (leb 1 (rank_at s x)) (eqb (size_at s x) (2 + rank_at s x + product (shape_at s x)) && leb (x + size_at s x) (length s)) e).1 in
      let z = eqb-true (size_at s x) (2 + rank_at s x + product (shape_at s x)) (both_hold (eqb (size_at s x) (2 + rank_at s x + product (shape_at s x))) (leb (x + size_at s x) (length s)) t).0 in
      let n = part_length s (x + 2 + rank_at s x) (product (shape_at s x)) in
      record {
        fits = record {
          rank = omega (arith, part_length s (x + 2) (rank_at s x));
          size = sym n;
          lengths = count-all Length (shape_at s x) i.lengths;
          scalars = count-all Valid (elements_at s x) (λ w k. record {
            word = all-count (λ v. v < 2 ^ 32) (elements_at s x) (part-words s words (x + 2 + rank_at s x) (product (shape_at s x))) w k;
            scalar = i.scalars w k;
          });
        };
        short = omega (arith, n, z);
      }

  kind_fits : (w : ℕ) → w < 2 ^ 32 → 0 < count w owners → (k : Kind) → kind_of w ≡ k → IfArray w k → CellFits (read_kind s w k)
  unfolding is_scalar
  kind_fits w l c (K.Scalar k) e h = scalar-stored w (record { word = l; scalar = ap scalar_kind e })
  kind_fits w l c (K.Array a) e h = go (whole s a.0) refl
    where
      go : (b : Bool) → whole s a.0 ≡ b → CellFits (cond b (value (shape_at s a.0) (elements_at s a.0)) invalid)
      go true t =
          let q = array-address w a e h in
          let r : a.0 < 2 ^ 16 = omega (arith, q, eqb-true (w / 2 ^ 16) 0x200 h) in
          let n = o.named a.0 r (rw q at c) in
          array-fits a.0 n.0 (o.inside a.0 n.0 n.1) t
      go false t = tt
  kind_fits w l c (K.Indirect t) e h = tt
  kind_fits w l c K.Undefined e h = tt
  kind_fits w l c K.Invalid e h = tt

  pub read_fits : (w : ℕ) → w < 2 ^ 32 → 0 < count w owners → CellFits (read s w)
  unfolding read
  read_fits w l c = kind_fits w l c (kind_of w) refl (kind-array w)

-- ---- a cell that is seen as an array

cell-kind : (s : List ℕ) (w : ℕ) (k : Kind) (shape ravel : List ℕ) → kind_of w ≡ k → IfArray w k → cell_of_kind s w k ≡ value shape ravel → (length shape ≡ 0 → ⊥)
    → (is_array w ≡ true) × (shape ≡ shape_at s (address w))
cell-kind s w (K.Scalar k) shape ravel e h c n = let q : shape ≡ [] = cc in absurd (n (ap length q))
cell-kind s w (K.Array a) shape ravel e h c n =
    let q : a.0 ≡ address w = omega (arith, array-address w a e h, eqb-true (w / 2 ^ 16) 0x200 h) in
    let p : shape_at s a.0 ≡ shape = cc in
    (h, sym p ∙ ap (shape_at s) q)
cell-kind s w (K.Indirect t) shape ravel e h c n = let z : ◌≡◌ {A = ℕ} 0 1 = cc in absurd (omega arith)
cell-kind s w K.Undefined shape ravel e h c n = let z : ◌≡◌ {A = ℕ} 0 1 = cc in absurd (omega arith)
cell-kind s w K.Invalid shape ravel e h c n = let z : ◌≡◌ {A = ℕ} 0 1 = cc in absurd (omega arith)

pub cell-array-shape : (s : List ℕ) (w : ℕ) (shape ravel : List ℕ) → cell s w ≡ value shape ravel → (length shape ≡ 0 → ⊥)
    → (is_array w ≡ true) × (shape ≡ shape_at s (address w))
unfolding cell
cell-array-shape s w shape ravel c n = cell-kind s w (kind_of w) shape ravel refl (kind-array w) c n
