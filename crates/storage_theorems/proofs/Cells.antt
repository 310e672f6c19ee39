-- What an array holds and what a cell is seen as, over words that are the same.
use Prim.Native.Nat.{ℕ, ◌+◌, ◌%◌, ◌^◌, ◌<◌}
use mathlib.Core.Path.{◌≡◌, refl, sym, ◌∙◌}
use mathlib.Core.Bool.{true, false}
use mathlib.Core.List.{List}
use mathlib.Core.Logic.{⊎_elim}
use native.Mathlib.Omega.{arith}
use lib.ListN.{get_or}
use Rattle.descriptor.specs.Fields.{is_array, address, array_word}
use Rattle.segment.specs.Blocks.{rank_at, product, shape_at, elements_at}
use Rattle.segment.specs.Cells.{cell, cell_of_kind, value}
use Rattle.descriptor.specs.declared.Kind.{Kind}
use Rattle.descriptor.specs.declared.Kind.TheVariants as K
use Rattle.descriptor.specs.Kinds.{kind_of}
use Rattle.descriptor.proofs.Arrays.{IfArray, array_kind_lem, kind-array}
pub use Rattle.descriptor.proofs.Arrays.{array_of}
use Rattle.storage.specs.Owned.{Inside}
use Rattle.descriptor.proofs.Truth.{decide}
use Rattle.segment.proofs.Runs.{part_same}
use Rattle.storage_theorems.proofs.Walks.{Same}

-- an array keeps its inside with its rank and the words behind
module _ (s s' : List ℕ) (x z : ℕ) (h : Inside s x z) (r : get_or s' (x + 1) 0 % 2 ^ 16 ≡ get_or s (x + 1) 0 % 2 ^ 16)
    (e : Same s s' (x + 2) (x + z)) where
  rank_same : rank_at s' x ≡ rank_at s x
  rank_same = omega arith

  shape_same : shape_at s' x ≡ shape_at s x
  unfolding shape_at
  shape_same = rw rank_same (part_same s s' (x + 2) (rank_at s x) (λ i l u. e i l (omega (arith, h.sized))))

  elements_same : elements_at s' x ≡ elements_at s x
  unfolding elements_at
  elements_same =
      rw (rank_same, shape_same) (part_same s s' (x + 2 + rank_at s x) (product (shape_at s x)) (λ i l u. e i (omega arith) (omega (arith, h.sized))))

  pub value_same : (shape_at s' x ≡ shape_at s x) × (elements_at s' x ≡ elements_at s x)
  value_same = (shape_same, elements_same)

  pub inside-same : Inside s' x z
  inside-same = record {
    clear = omega (arith, h.clear);
    rank = rw rank_same h.rank;
    sized = rw (rank_same, shape_same) h.sized;
    lengths = rw shape_same h.lengths;
    scalars = rw elements_same h.scalars;
  }

-- what a word is seen as
pub cell-array : (s : List ℕ) (x : ℕ) → x < 2 ^ 16 → cell s (array_word x) ≡ value (shape_at s x) (elements_at s x)
unfolding cell
cell-array s x l = rw (array_kind_lem x l)

-- a word that is no array's is seen alike in every segment
kind-other : (s s' : List ℕ) (w : ℕ) (k : Kind) → IfArray w k → is_array w ≡ false → cell_of_kind s' w k ≡ cell_of_kind s w k
kind-other s s' w (K.Scalar k) h e = refl
kind-other s s' w (K.Array a) h e = let z : true ≡ false = sym h ∙ e in cc
kind-other s s' w (K.Indirect t) h e = refl
kind-other s s' w K.Undefined h e = refl
kind-other s s' w K.Invalid h e = refl

pub cell_other : (s s' : List ℕ) (w : ℕ) → is_array w ≡ false → cell s' w ≡ cell s w
unfolding cell
cell_other s s' w e = kind-other s s' w (kind_of w) (kind-array w) e

pub cell_same : (s s' : List ℕ) (w : ℕ)
    → ((x : ℕ) → x < 2 ^ 16 → w ≡ array_word x → (shape_at s' x ≡ shape_at s x) × (elements_at s' x ≡ elements_at s x)) → cell s' w ≡ cell s w
cell_same s s' w h = ⊎_elim same-array (cell_other s s' w) (decide (is_array w))
  where
    same-array : is_array w ≡ true → cell s' w ≡ cell s w
    same-array e =
        let l : address w < 2 ^ 16 = omega arith in
        let r = h (address w) l (array_of w e) in
        rw (array_of w e) (cell-array s' (address w) l ∙ rw (r.0, r.1) (sym (cell-array s (address w) l)))

pub array_word-same : (x y : ℕ) → array_word x ≡ array_word y → x ≡ y
array_word-same x y e = omega arith
