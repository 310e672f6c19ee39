-- Arrays and their owners: where an array stands, other owners, and a new count.
use Prim.Native.Nat.{ℕ, ◌+◌, ◌/◌, ◌%◌, ◌^◌, ◌<◌, ◌≤◌}
use mathlib.Core.Path.{◌≡◌, ap}
use mathlib.Core.Bool.{false}
use mathlib.Core.List.{List}
use mathlib.Core.Logic.{◌≢◌, ⊎_elim}
use native.Mathlib.Omega.{arith}
use lib.ListN.{get_or, set, length, length-set}
use lib.Seq.{get_or-set_same, get_or-set_other}
use Rattle.descriptor.specs.Fields.{array_word}
use Rattle.segment.specs.State.{sbase, blockptr}
use Rattle.segment.specs.Blocks.{count_at}
use Rattle.storage.specs.Heap.{count}
use Rattle.storage.specs.Owned.{ArrayIn, Inside, Owned, CellsKept, OwnedStep}
use Rattle.storage_theorems.specs.Words.{Inner}
use Rattle.storage_theorems.proofs.Walks.{Same}
use Rattle.storage_theorems.proofs.Counts.{hit-cases}
use Rattle.storage_theorems.proofs.Arrays.{array-inner, array-within, array_apart}
use Rattle.storage_theorems.proofs.Stores.{store-heap}
use Rattle.storage_theorems.proofs.Cells.{value_same, inside-same, cell_same}

-- an array's place in the segment
pub array-place : {s ws : List ℕ} (o : Owned s ws) (x z : ℕ) → ArrayIn (blockptr s) o.blocks x z
    → (8 ≤ blockptr s) × (blockptr s ≤ x) × (3 ≤ z) × (x + z + 3 ≤ sbase s) × (sbase s ≤ length s) × (length s ≤ 16384)
array-place {s} o x z u =
    omega (arith, o.heap.low, o.heap.top, o.heap.room, o.heap.short, array-within s (blockptr s) false o.blocks x z o.heap.walk u)

-- other owners, as many of each array
pub reown : {s ws : List ℕ} (vs : List ℕ) → ((x : ℕ) → x < 2 ^ 16 → count (array_word x) vs ≡ count (array_word x) ws) → Owned s ws → Owned s vs
reown {s} {ws} vs e o = record {
  blocks = o.blocks;
  ring = o.ring;
  heap = o.heap;
  named = λ x l h. o.named x l (rw (e x l) at h);
  counts = λ x z u. rw (e x (omega (arith, array-place o x z u))) (o.counts x z u);
  inside = o.inside;
}

-- a new count in the second word of the array at `x`
module _ {s ws : List ℕ} (o : Owned s ws) (x z : ℕ) (u : ArrayIn (blockptr s) o.blocks x z) (v : ℕ) (vs : List ℕ)
    (r : v % 2 ^ 16 ≡ get_or s (x + 1) 0 % 2 ^ 16) (c : v / 2 ^ 16 ≡ count (array_word x) vs) (pos : 0 < count (array_word x) vs)
    (rest : (y : ℕ) → y ≢ x → count (array_word y) vs ≡ count (array_word y) ws) where
  abbrev s' : List ℕ
  s' = set s (x + 1) v

  place : (8 ≤ blockptr s) × (blockptr s ≤ x) × (3 ≤ z) × (x + z + 3 ≤ sbase s) × (sbase s ≤ length s) × (length s ≤ 16384)
  place = array-place o x z u

  other : (i : ℕ) → i ≢ x + 1 → get_or s' i 0 ≡ get_or s i 0
  other i h = rw get_or-set_other

  here : get_or s' (x + 1) 0 ≡ v
  here = let l : x + 1 < length s = omega (arith, place) in rw get_or-set_same

  bp : blockptr s' ≡ blockptr s
  bp = other 4 (omega (arith, place))

  -- every array keeps its inside
  rank-kept : (y w : ℕ) → ArrayIn (blockptr s) o.blocks y w → get_or s' (y + 1) 0 % 2 ^ 16 ≡ get_or s (y + 1) 0 % 2 ^ 16
  rank-kept y w k =
      ⊎_elim (λ e. rw (e.0, here) r)
      (λ e. ap (λ (m : ℕ). m % 2 ^ 16) (other (y + 1) (λ q. e.0 (omega arith)))) (hit-cases y x)

  words-kept : (y w : ℕ) → ArrayIn (blockptr s) o.blocks y w → Same s s' (y + 2) (y + w)
  words-kept y w k i l m =
      ⊎_elim (λ e. other i (omega (arith, e)))
      (⊎_elim (λ e. other i (omega (arith, e, array-place o y w k, place))) (λ e. other i (omega (arith, e, array-place o y w k, place))))
      (array_apart s (blockptr s) false o.blocks x z y w o.heap.walk u k)

  recount-own : Owned s' vs
  recount-own = record {
    blocks = o.blocks;
    ring = (store-heap o.heap (x + 1) v inn).0;
    heap = (store-heap o.heap (x + 1) v inn).1;
    named = λ y l h. rw bp (⊎_elim (λ e. rw e.0 (z, u)) (λ e. o.named y l (rw (rest y e.0) at h)) (hit-cases y x));
    counts = λ y w k. now-counts y w (rw bp at k);
    inside = λ y w k. now-inside y w (rw bp at k);
  }
    where
      inn : Inner (blockptr s) o.blocks (x + 1)
      inn = array-inner (blockptr s) o.blocks x z (x + 1) u (omega arith) (omega (arith, place))

      now-counts : (y w : ℕ) → ArrayIn (blockptr s) o.blocks y w → (count_at s' y ≡ count (array_word y) vs) × (0 < count (array_word y) vs)
      now-counts y w k =
          ⊎_elim (λ e. rw (e.0, here) (c, pos))
          (λ e. rw (other (y + 1) (λ q. e.0 (omega arith)), rest y e.0) (o.counts y w k)) (hit-cases y x)

      now-inside : (y w : ℕ) → ArrayIn (blockptr s) o.blocks y w → Inside s' y w
      now-inside y w k = inside-same s s' y w (o.inside y w k) (rank-kept y w k) (words-kept y w k)

  recount-kept : CellsKept s s'
  recount-kept = record {
    long = length-set s (x + 1) v;
    first = other 0 (omega arith);
    base = ap (λ (m : ℕ). m / 2 ^ 16) (other 1 (omega (arith, place)));
    rest = λ i l h. ⊎_elim (λ q. other i (omega (arith, place, q))) (λ q. other i (omega (arith, place, q))) h;
  }

  pub recount : OwnedStep s ws s' vs
  recount = record {
    own = recount-own;
    kept = recount-kept;
    same = λ w h k. cell_same s s' w (λ y l e. let n = o.named y l (rw e at h) in value_same s s' y n.0 (o.inside y n.0 n.1)
        (rank-kept y n.0 n.1) (words-kept y n.0 n.1));
  }
