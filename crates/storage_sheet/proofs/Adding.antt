-- The walk that adds up: what it has and what is left make up the whole.
use Prim.Native.Nat.{ℕ, ◌+◌, ◌-◌, ◌*◌, ◌^◌, ◌<◌, ◌≤◌}
use mathlib.Core.Path.{◌≡◌, ap}
use mathlib.Core.Bool.{Bool, true, false}
use mathlib.Core.Logic.{◌⊎◌, ⊎_elim}
use mathlib.Core.List.{List, [], ◌∷◌}
use native.Mathlib.Omega.{arith}
use lib.ListN.{length}
use Rattle.segment.specs.State.{sbase, blockptr}
use Rattle.segment.specs.Blocks.{free_at, size_at, slop_at, span_at, dummy}
use Rattle.acceptance_storage.specs.Blocks.{starts_from, free_starts, array_starts}
use Rattle.acceptance_storage.proofs.Starts.{starts-few, starts_none, starts-end, free-hit, free-miss, array-hit, array-miss}
use Rattle.storage_sheet.specs.Sheet.{sum_of, sheet_of}

sum-small : (number : ℕ → ℕ) → ((x : ℕ) → number x ≤ 65535) → (l : List ℕ) → sum_of number l ≤ length l * 65535
sum-small number h [] = omega arith
sum-small number h (x ∷ l) = omega (arith, h x, sum-small number h l)

pub record Adding (s : List ℕ) (from end arrays slop free a left : ℕ) : Type 0 where
  pub array_sum : arrays + sum_of (size_at s) (starts_from false left s a end) ≡ sum_of (size_at s) (starts_from false (length s) s from end)
  pub slop_sum : slop + sum_of (slop_at s) (starts_from false left s a end) ≡ sum_of (slop_at s) (starts_from false (length s) s from end)
  pub free_sum : free + sum_of (size_at s) (starts_from true left s a end) ≡ sum_of (size_at s) (starts_from true (length s) s from end)

pub adding-start : (s : List ℕ) (from end : ℕ) → {left : ℕ} → left ≡ length s → Adding s from end 0 0 0 from left
adding-start s from end all = rw all (record { array_sum = omega arith; slop_sum = omega arith; free_sum = omega arith })

-- the sums of a long segment's blocks fit into 32 bits
module _ (s : List ℕ) (from end : ℕ) (short : length s ≤ 16384) where
  sum_fits : (number : ℕ → ℕ) → ((x : ℕ) → number x ≤ 65535) → (kind : Bool) → sum_of number (starts_from kind (length s) s from end) < 2 ^ 32
  sum_fits number h kind =
      omega (arith, sum-small number h (starts_from kind (length s) s from end), starts-few kind s end (length s) from)

  sizes-fit : (kind : Bool) → sum_of (size_at s) (starts_from kind (length s) s from end) < 2 ^ 32
  sizes-fit = sum_fits (size_at s) (λ x. omega arith)

  slops-fit : sum_of (slop_at s) (starts_from false (length s) s from end) < 2 ^ 32
  slops-fit = sum_fits (slop_at s) (λ x. omega arith) false

-- at a block
module _ {s : List ℕ} {from end arrays slop free a left : ℕ} (h : Adding s from end arrays slop free a left) (some : 0 < left) (low : a < end) where
  module _ (f : free_at s a ≡ true) where
    free-next : free + size_at s a + sum_of (size_at s) (starts_from true (left - 1) s (a + span_at s a) end) ≡ sum_of (size_at s) (starts_from true (length s) s from end)
    free-next = omega (arith, h.free_sum, ap (sum_of (size_at s)) (free-hit s a end left some low f))

    pub free-fits : length s ≤ 16384 → free + size_at s a < 2 ^ 32
    free-fits short = omega (arith, free-next, sizes-fit s from end short true)

    pub free_on : Adding s from end arrays slop (free + size_at s a) (a + span_at s a) (left - 1)
    free_on =
        let e = array-miss s a end left some low f in
        record { array_sum = rw e at h.array_sum; slop_sum = rw e at h.slop_sum; free_sum = free-next }

  module _ (f : free_at s a ≡ false) where
    array-next : arrays + size_at s a + sum_of (size_at s) (starts_from false (left - 1) s (a + span_at s a) end) ≡ sum_of (size_at s) (starts_from false (length s) s from end)
    array-next = omega (arith, h.array_sum, ap (sum_of (size_at s)) (array-hit s a end left some low f))

    slop-next : slop + slop_at s a + sum_of (slop_at s) (starts_from false (left - 1) s (a + span_at s a) end) ≡ sum_of (slop_at s) (starts_from false (length s) s from end)
    slop-next = omega (arith, h.slop_sum, ap (sum_of (slop_at s)) (array-hit s a end left some low f))

    pub array-fits : length s ≤ 16384 → arrays + size_at s a < 2 ^ 32
    array-fits short = omega (arith, array-next, sizes-fit s from end short false)

    pub slop-fits : length s ≤ 16384 → slop + slop_at s a < 2 ^ 32
    slop-fits short = omega (arith, slop-next, slops-fit s from end short)

    pub array-on : Adding s from end (arrays + size_at s a) (slop + slop_at s a) free (a + span_at s a) (left - 1)
    array-on = record { array_sum = array-next; slop_sum = slop-next; free_sum = rw (free-miss s a end left some low f) at h.free_sum }

-- no block is left
module _ {s : List ℕ} {from end arrays slop free a left : ℕ} (h : Adding s from end arrays slop free a left) (over : (left ≤ 0) ⊎ ((0 < left) × (end ≤ a))) where
  none_left : (kind : Bool) → starts_from kind left s a end ≡ []
  none_left kind = ⊎_elim (λ z. starts_none kind left s a end z) (λ e. starts-end s a end left e.0 kind e.1) over

  pub all-added : from ≡ blockptr s → end ≡ dummy s → {total : ℕ} → total ≡ sbase s - from
      → record { arrays = arrays; slop = slop; free = free; end = 3; total = total } ≡ sheet_of s
  unfolding sheet_of array_starts free_starts
  all-added p q t =
      let x : arrays ≡ sum_of (size_at s) (starts_from false (length s) s from end) = omega (arith, rw (none_left false) at h.array_sum) in
      let y : slop ≡ sum_of (slop_at s) (starts_from false (length s) s from end) = omega (arith, rw (none_left false) at h.slop_sum) in
      let z : free ≡ sum_of (size_at s) (starts_from true (length s) s from end) = omega (arith, rw (none_left true) at h.free_sum) in
      rw (x, y, z, t, p, q)
