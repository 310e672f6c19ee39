-- The theorems of the sheet, from the tiling: block by block.
use Prim.Native.Nat.{ℕ, ◌+◌, ◌^◌, ◌<◌, ◌≤◌}
use mathlib.Core.Path.{◌≡◌, refl}
use mathlib.Core.Bool.{Bool, true, false}
use mathlib.Core.Logic.{inl, inr}
use mathlib.Core.List.{List, [], ◌∷◌}
use native.Mathlib.Omega.{arith}
use Rattle.descriptor.specs.Fields.{array_word}
use Rattle.segment.specs.State.{sbase, blockptr}
use Rattle.segment.specs.Blocks.{size_at, slop_at}
use Rattle.segment.specs.View.{owners}
use Rattle.storage.specs.Heap.{Block, free, array, Walk, over, frees, count}
use Rattle.storage_theorems.specs.Words.{HasRoom}
use Rattle.storage_theorems.proofs.Walks.{over-le}
use Rattle.storage_theorems.proofs.Arrays.{array-fields}
use Rattle.acceptance_storage.specs.Blocks.{array_starts}
use Rattle.acceptance_storage.specs.Room.{long_enough}
use Rattle.acceptance_storage.specs.Structure.{Stored, arrays}
use Rattle.acceptance_storage.proofs.Structure.{stored-frees, stored-arrays}
use Rattle.acceptance_storage.proofs.Tiling.{array-counted}
use Rattle.acceptance_storage.proofs.Room.{room-told}
use Rattle.acceptance.specs.Structure.{Accepted}
use Rattle.acceptance.proofs.Compared.{arrays-once}
use Rattle.storage_sheet.specs.Sheet.{sum_of, sheet_of}
use Rattle.storage_sheet.specs.Theorems.{array_sizes, slops, free_sizes, SummedFrom, SheetTheorems}

-- every word of the blocks is an array's, slop or free
covered : (a : ℕ) (blocks : List Block) → a + array_sizes blocks + slops blocks + free_sizes blocks ≡ over a blocks
covered a [] = omega arith
covered a (free n ∷ blocks) = omega (arith, covered (a + n) blocks)
covered a (array n slop ∷ blocks) = omega (arith, covered (a + (n + slop)) blocks)

room_small : (blocks : List Block) (n : ℕ) → HasRoom blocks n → n ≤ free_sizes blocks
room_small [] n h = elim h [ ]
room_small (free m ∷ blocks) n (inl h) = omega arith
room_small (free m ∷ blocks) n (inr h) = omega (arith, room_small blocks n h)
room_small (array m slop ∷ blocks) n h = room_small blocks n h

-- the sums over the starts are those over the blocks
module _ (s : List ℕ) where
  array-sums : (a : ℕ) (before : Bool) (blocks : List Block) → Walk s a before blocks → over a blocks < 2 ^ 16
      → (sum_of (size_at s) (arrays a blocks) ≡ array_sizes blocks) × (sum_of (slop_at s) (arrays a blocks) ≡ slops blocks)
  array-sums a before [] w l = (refl, refl)
  array-sums a before (free n ∷ blocks) w l = array-sums (a + n) true blocks w.1 l
  array-sums a before (array n slop ∷ blocks) w l =
      let f = array-fields s a before n slop w.0 (omega (arith, over-le (a + (n + slop)) blocks)) in
      let r = array-sums (a + (n + slop)) false blocks w.1 l in
      (omega (arith, f.0, r.0), omega (arith, f.1, r.1))

  free-sum : (a : ℕ) (before : Bool) (blocks : List Block) → Walk s a before blocks → over a blocks < 2 ^ 16 → sum_of (size_at s) (frees a blocks) ≡ free_sizes blocks
  free-sum a before [] w l = refl
  free-sum a before (free n ∷ blocks) w l = omega (arith, w.0.first, over-le (a + n) blocks, free-sum (a + n) true blocks w.1 l)
  free-sum a before (array n slop ∷ blocks) w l = free-sum (a + (n + slop)) false blocks w.1 l

module _ (s regular alternate : List ℕ) (h : Accepted s regular alternate) where
  abbrev blocks : List Block
  blocks = h.owned.blocks

  stored : Stored s blocks h.owned.ring
  stored = record { head = h.head; heap = h.owned.heap; inside = h.owned.inside }

  near : over (blockptr s) blocks < 2 ^ 16
  near = omega (arith, h.owned.heap.top, h.owned.heap.room, h.owned.heap.short)

  summed : SummedFrom s blocks (sheet_of s)
  unfolding sheet_of
  summed =
      let r = array-sums s (blockptr s) false blocks h.owned.heap.walk near in
      record {
        arrays = rw (stored-arrays s blocks h.owned.ring stored) r.0;
        slop = rw (stored-arrays s blocks h.owned.ring stored) r.1;
        free = rw (stored-frees s blocks h.owned.ring stored) (free-sum s (blockptr s) false blocks h.owned.heap.walk near);
        end = h.owned.heap.top;
      }

  total-is : (sheet_of s).total + blockptr s ≡ sbase s
  unfolding sheet_of
  total-is = omega (arith, h.owned.heap.top, over-le (blockptr s) blocks)

  adds : (sheet_of s).arrays + (sheet_of s).slop + (sheet_of s).free + (sheet_of s).end ≡ (sheet_of s).total
  adds = omega (arith, summed.arrays, summed.slop, summed.free, summed.end, total-is, covered (blockptr s) blocks)

  once : (x : ℕ) → x < 2 ^ 16 → 0 < count (array_word x) (owners s) → count x (array_starts s) ≡ 1
  once x l k =
      let n = h.owned.named x l k in
      let w = h.owned.heap.walk in
      let some = (array-counted s (blockptr s) false blocks x n.0 w near n.1).0 in
      rw (stored-arrays s blocks h.owned.ring stored) (omega (arith, some, arrays-once s (blockptr s) false blocks x w))

  most : (n : ℕ) → long_enough s n ≡ true → n ≤ (sheet_of s).free
  most n k = rw summed.free (room_small blocks n ((room-told s blocks h.owned.ring stored n).0 k))

pub sheet-theorems : SheetTheorems
sheet-theorems = record { summed = summed; adds = adds; once = once; most = most }
