-- Every cell of a sound segment is read as it is seen: the block of an array that a cell points to is whole.
use Prim.Native.Nat.{ℕ, ◌+◌, ◌^◌, ◌<◌}
use mathlib.Core.Path.{◌≡◌, refl, sym, ◌∙◌}
use mathlib.Core.Bool.{Bool, true, false, true≢false}
use mathlib.Core.List.{List, [], ◌∷◌}
use mathlib.Core.Logic.{inl, inr, ⊎_elim}
use native.Mathlib.Omega.{arith}
use lib.ListN.{length}
use borrow.Author.Tests.{le-leb, eq-eqb}
use Rattle.descriptor.specs.declared.Kind.{Kind}
use Rattle.descriptor.specs.declared.Kind.TheVariants as K
use Rattle.descriptor.specs.Fields.{is_array, address, array_word}
use Rattle.descriptor.specs.Kinds.{kind_of}
use Rattle.descriptor.proofs.Arrays.{IfArray, array_kind_lem, kind-array}
use Rattle.descriptor.proofs.Truth.{decide}
use Rattle.segment.specs.State.{blockptr}
use Rattle.segment.specs.Blocks.{size_at, rank_at, shape_at, product}
use Rattle.segment.specs.Cells.{cell, cell_of_kind}
use Rattle.storage.specs.Heap.{Block, free, array, Walk, over, count}
use Rattle.storage.specs.Owned.{ArrayIn, Owned}
use Rattle.segment.specs.View.{owners}
use Rattle.storage_theorems.proofs.Walks.{over-le}
use Rattle.storage_theorems.proofs.Arrays.{array-within, array-fields}
use Rattle.storage_theorems.proofs.Cells.{array_of, cell-array}
use Rattle.effects.specs.Seen.{whole, read_kind, read}
use Rattle.effects.specs.Sound.{Sound}

-- SIZE of an array among the blocks
array_size : (s : List ℕ) (a : ℕ) (p : Bool) (bs : List Block) (x z : ℕ) → Walk s a p bs → ArrayIn a bs x z → over a bs < 2 ^ 16 → size_at s x ≡ z
array_size s a p [] x z w h l = elim h [ ]
array_size s a p (free n ∷ bs) x z w h l = array_size s (a + n) true bs x z w.1 h l
array_size s a p (array y k ∷ bs) x z w (inl h) l =
    rw (h.0, h.1) (array-fields s a p y k w.0 (omega (arith, l, over-le (a + (y + k)) bs))).0
array_size s a p (array y k ∷ bs) x z w (inr h) l = array_size s (a + (y + k)) false bs x z w.1 h l

-- a word that is no array's
kind-other : (s : List ℕ) (w : ℕ) (k : Kind) → IfArray w k → is_array w ≡ false → read_kind s w k ≡ cell_of_kind s w k
kind-other s w (K.Scalar k) h e = refl
kind-other s w (K.Array a) h e = absurd (true≢false (sym h ∙ e))
kind-other s w (K.Indirect t) h e = refl
kind-other s w K.Undefined h e = refl
kind-other s w K.Invalid h e = refl

read-other : (s : List ℕ) (w : ℕ) → is_array w ≡ false → read s w ≡ cell s w
unfolding read cell
read-other s w e = kind-other s w (kind_of w) (kind-array w) e

module _ {s ws : List ℕ} (o : Owned s ws) where
  array_whole : (x : ℕ) → x < 2 ^ 16 → 0 < count (array_word x) ws → whole s x ≡ true
  unfolding whole
  array_whole x l c =
      let n = o.named x l c in
      let i = o.inside x n.0 n.1 in
      let w = array-within s (blockptr s) false o.blocks x n.0 o.heap.walk n.1 in
      let z : size_at s x ≡ n.0 = array_size s (blockptr s) false o.blocks x n.0 o.heap.walk n.1
      (omega (arith, o.heap.top, o.heap.room, o.heap.short)) in
      rw (
        le-leb 1 (rank_at s x) i.rank,
        eq-eqb (size_at s x) (2 + rank_at s x + product (shape_at s x)) (z ∙ i.sized),
        le-leb (x + size_at s x) (length s) (omega (arith, z, w, o.heap.top, o.heap.room)),
      )

  read-array : (x : ℕ) → x < 2 ^ 16 → 0 < count (array_word x) ws → read s (array_word x) ≡ cell s (array_word x)
  unfolding read
  read-array x l c = rw (array_kind_lem x l, array_whole x l c) (sym (cell-array s x l))

  read_owned : (w : ℕ) → 0 < count w ws → read s w ≡ cell s w
  read_owned w c = ⊎_elim yes no (decide (is_array w))
    where
      yes : is_array w ≡ true → read s w ≡ cell s w
      yes e = rw (array_of w e) (read-array (address w) (omega arith) (rw (array_of w e) at c))

      no : is_array w ≡ false → read s w ≡ cell s w
      no e = read-other s w e

pub read_cell : (s : List ℕ) → Sound s → (w : ℕ) → 0 < count w (owners s) → read s w ≡ cell s w
read_cell s g w c = read_owned g.own w c
