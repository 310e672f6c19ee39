-- The addresses from one up to another, and the loops that mark and unmark them in a table.
use Prim.Native.Nat.{ℕ, zero, suc, ◌+◌, ◌-◌, ◌<◌, ◌≤◌}
use mathlib.Core.Path.{◌≡◌, refl, ◌∙◌}
use mathlib.Core.List.{List, [], ◌∷◌}
use mathlib.Core.Logic.{⊎_elim}
use native.Mathlib.Omega.{arith}
use lib.ListN.{get_or, set, length, length-set}
use Rattle.storage.specs.Heap.{count}
use Rattle.storage_theorems.proofs.Counts.{hit-cases, hit_same}
use Rattle.acceptance.specs.Cells.{range}
use Rattle.acceptance.specs.Tables.{Gains}
use Rattle.acceptance_storage.proofs.Tallies.{raise-at, lower-at}

range-step : (i end : ℕ) → i < end → range i (end - i) ≡ i ∷ range (i + 1) (end - (i + 1))
range-step i end h = let e : end - i ≡ suc (end - (i + 1)) = omega arith in rw e

range-done : (i end : ℕ) → end ≤ i → range i (end - i) ≡ []
range-done i end h = let e : end - i ≡ zero = omega arith in rw e

-- No number below stands in it, and none stands in it twice.
range-below : (a n x : ℕ) → x < a → count x (range a n) ≡ 0
range-below a zero x h = refl
range-below a (suc n) x h =
    ⊎_elim (λ e. absurd (omega (arith, e))) (λ e. omega (arith, e, range-below (a + 1) n x (omega arith))) (hit-cases x a)

pub range-once : (a n x : ℕ) → count x (range a n) ≤ 1
range-once a zero x = omega arith
range-once a (suc n) x =
    ⊎_elim (λ e. omega (arith, e, range-below (a + 1) n x (omega (arith, e)))) (λ e. omega (arith, e, range-once (a + 1) n x)) (hit-cases x a)

-- What is marked and what is left make up the whole.
pub record Marking (start end : ℕ) (before table : List ℕ) (a : ℕ) : Type 0 where
  pub long : length table ≡ length before
  pub sum : (x : ℕ) → get_or table x 0 + count x (range a (end - a)) ≡ get_or before x 0 + count x (range start (end - start))

module _ {start end : ℕ} {before table : List ℕ} {a : ℕ} (h : Marking start end before table a) where
  pub marking-done : end ≤ a → Gains before table (range start (end - start))
  marking-done z = record { sum = λ x. omega (arith, rw (range-done a end z) at (h.sum x)) }

  module _ (pos : a < end) where
    pub marking-room : ((x : ℕ) → get_or before x 0 < 65535) → get_or table a 0 < 65535
    marking-room r = omega (arith, rw (range-step a end pos) at (h.sum a), hit_same a, r a, range-once start (end - start) a)

    pub marking-on : a < length table → Marking start end before (set table a (get_or table a 0 + 1)) (a + 1)
    marking-on k = record {
      long = length-set table a _ ∙ h.long;
      sum = λ x. omega (arith, rw (range-step a end pos) at (h.sum x), raise-at table a x k);
    }

-- The way back.
pub record Unmarking (start end : ℕ) (before table : List ℕ) (a : ℕ) : Type 0 where
  pub long : length table ≡ length before
  pub sum : (x : ℕ) → get_or table x 0 + count x (range start (end - start)) ≡ get_or before x 0 + count x (range a (end - a))

module _ {start end : ℕ} {before table : List ℕ} {a : ℕ} (h : Unmarking start end before table a) where
  pub unmarking-done : end ≤ a → Gains table before (range start (end - start))
  unmarking-done z = record { sum = λ x. omega (arith, rw (range-done a end z) at (h.sum x)) }

  module _ (pos : a < end) (marked : (x : ℕ) → count x (range start (end - start)) ≤ get_or before x 0) where
    pub unmarking-room : 0 < get_or table a 0
    unmarking-room = omega (arith, rw (range-step a end pos) at (h.sum a), hit_same a, marked a)

    pub unmarking-on : Unmarking start end before (set table a (get_or table a 0 - 1)) (a + 1)
    unmarking-on = record {
      long = length-set table a _ ∙ h.long;
      sum = λ x. omega (arith, rw (range-step a end pos) at (h.sum x), lower-at table a x unmarking-room);
    }
