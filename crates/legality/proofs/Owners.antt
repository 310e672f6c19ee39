-- Every cell owns: the array that its word names is one of the blocks.
use Prim.Native.Nat.{ℕ, zero, suc, ◌+◌, ◌-◌, ◌<◌, ◌≤◌}
use mathlib.Core.Path.{◌≡◌, ◌∙◌, ap, subst}
use mathlib.Core.Bool.{true}
use mathlib.Core.List.{List, [], ◌++◌}
use native.Mathlib.Omega.{arith}
use lib.ListN.{get_or}
use Rattle.descriptor.specs.Fields.{is_array, address}
use Rattle.segment.specs.State.{sbase, ltop, lbase, blockptr}
use Rattle.segment.specs.Blocks.{part}
use Rattle.segment.specs.Stack.{stack_at, last_lbase_at, downward}
use Rattle.storage.specs.Heap.{count}
use Rattle.storage.specs.Owned.{ArrayIn, Owned}
use Rattle.segment.specs.Machine.{cells_of_frames}
use Rattle.segment.specs.View.{frames_from, words, owners}
use Rattle.storage_theorems.proofs.Counts.{hit_same, count-append}
use Rattle.storage_theorems.proofs.Cells.{array_of}
use Rattle.acceptance_storage.proofs.Tests.{by_le}
use Rattle.acceptance.proofs.Tallies.{downward-count, cells-bottom, cells-on}

downward-has : (s : List ℕ) (a n i : ℕ) → a ≤ i → i < a + n → 0 < count (get_or s i 0) (downward s a n)
downward-has s a zero i l u = absurd (omega arith)
downward-has s a (suc n) i l u =
    by_le (a + n) i (λ m. let e : i ≡ a + n = omega arith in rw e (omega (arith, hit_same (get_or s (a + n) 0)))) (λ m. omega (arith, downward-has s a n i l m))

-- ---- the cells of the frames from one down

module _ (n : ℕ) (s : List ℕ) (base : ℕ) where
  pub bottom-holds : last_lbase_at s base ≡ base → (i : ℕ) → i < base → 0 < count (stack_at s i) (cells_of_frames (frames_from (suc n) s base))
  bottom-holds e i u =
      rw (cells-bottom s base (suc n) (omega arith) (omega arith))
      (omega (arith, count-append (stack_at s i) (downward s (sbase s) base) [], downward-has s (sbase s) base (sbase s + i) (omega arith) (omega arith)))

  module _ (next : ℕ) (e : last_lbase_at s base ≡ next) (l : next < base) where
    upon-holds : (w : ℕ) → count w (cells_of_frames (frames_from (suc n) s base))
        ≡ count w (downward s (sbase s + (next + 2)) (base - (next + 2))) + count w (cells_of_frames (frames_from n s next))
    upon-holds w =
        let z : suc n - 1 ≡ n = omega arith in
        let c = rw (e, z) at (cells-on s base (suc n) (omega arith) (omega arith)) in
        rw c (count-append w (downward s (sbase s + (next + 2)) (base - (next + 2))) (cells_of_frames (frames_from n s next)))

    pub first_holds : (i : ℕ) → next + 2 ≤ i → i < base → 0 < count (stack_at s i) (cells_of_frames (frames_from (suc n) s base))
    first_holds i k u = omega (arith, upon-holds (stack_at s i), downward-has s (sbase s + (next + 2)) (base - (next + 2)) (sbase s + i) (omega arith) (omega arith))

    pub older-hold : (w : ℕ) → 0 < count w (cells_of_frames (frames_from n s next)) → 0 < count w (cells_of_frames (frames_from (suc n) s base))
    older-hold w h = omega (arith, upon-holds w)

-- ---- all cells

module _ (s : List ℕ) where
  all-owners : (w : ℕ) → count w (owners s)
      ≡ count w (downward s (sbase s + lbase s + 2) (ltop s - (lbase s + 1)))
      + (count w (cells_of_frames (frames_from (suc (lbase s)) s (lbase s))) + count w (part s 8 (blockptr s - 8)))
  unfolding words
  all-owners w =
      count-append w (downward s (sbase s + lbase s + 2) (ltop s - (lbase s + 1))) (cells_of_frames (frames_from (suc (lbase s)) s (lbase s)) ++ part s 8 (blockptr s - 8))
      ∙ ap (λ (n : ℕ). count w (downward s (sbase s + lbase s + 2) (ltop s - (lbase s + 1))) + n)
      (count-append w (cells_of_frames (frames_from (suc (lbase s)) s (lbase s))) (part s 8 (blockptr s - 8)))

  pub frames-own : (w : ℕ) → 0 < count w (cells_of_frames (frames_from (suc (lbase s)) s (lbase s))) → 0 < count w (owners s)
  frames-own w h = omega (arith, h, all-owners w)

  pub temporary-owns : (i : ℕ) → lbase s + 2 ≤ i → i < ltop s + 1 → 0 < count (stack_at s i) (owners s)
  temporary-owns i l u =
      omega (arith, all-owners (stack_at s i), downward-has s (sbase s + lbase s + 2) (ltop s - (lbase s + 1)) (sbase s + i) (omega arith) (omega arith))

  pub global-owns : (i : ℕ) → 8 ≤ i → i < blockptr s → 0 < count (get_or s i 0) (owners s)
  global-owns i l u =
      omega (arith, all-owners (get_or s i 0), downward-count (get_or s i 0) s 8 (blockptr s - 8), downward-has s 8 (blockptr s - 8) i l (omega arith))

  pub named : (own : Owned s (owners s)) (w : ℕ) → 0 < count w (owners s) → is_array w ≡ true → (size : ℕ) × ArrayIn (blockptr s) own.blocks (address w) size
  named own w h e = own.named (address w) (omega arith) (subst (λ (v : ℕ). 0 < count v (owners s)) (array_of w e) h)
