-- Tables of marks: one mark more or less, and how high they can be.
use Prim.Native.Nat.{ℕ, zero, suc, ◌+◌, ◌-◌, ◌<◌, ◌≤◌}
use mathlib.Core.Path.{◌≡◌, refl}
use mathlib.Core.List.{List}
use mathlib.Core.Logic.{◌≢◌, ⊎_elim}
use native.Mathlib.Omega.{arith}
use lib.ListN.{get_or, set, length, replicate, get_or-eq_default}
use lib.Seq.{get_or-set_same, get_or-set_other}
use Rattle.storage.specs.Heap.{hit}
use Rattle.storage_theorems.proofs.Counts.{order, hit-cases, hit_same}

-- a fresh table
pub zeros : (n x : ℕ) → ◌≡◌ {A = ℕ} (get_or (replicate n 0) x 0) 0
zeros zero x = refl
zeros (suc n) zero = refl
zeros (suc n) (suc x) = zeros n x

-- what is not 0 stands in the table
pub inside-table : (table : List ℕ) (a : ℕ) → 0 < get_or table a 0 → a < length table
inside-table table a h =
    ⊎_elim (λ (l : length table ≤ a). absurd (omega (arith, get_or-eq_default table 0 l))) (λ (l : a < length table). l) (order (length table) a)

pub raise-at : (table : List ℕ) (a x : ℕ) → a < length table → get_or (set table a (get_or table a 0 + 1)) x 0 ≡ get_or table x 0 + hit x a
raise-at table a x h =
    ⊎_elim (λ (e : (x ≡ a) × (hit x a ≡ 1)). rw (e.0, get_or-set_same table a) (omega (arith, hit_same a)))
    (λ (e : (x ≡ a → ⊥) × (hit x a ≡ 0)). let d : x ≢ a = e.0 in rw get_or-set_other (omega (arith, e)))
    (hit-cases x a)

pub lower-at : (table : List ℕ) (a x : ℕ) → 0 < get_or table a 0 → get_or (set table a (get_or table a 0 - 1)) x 0 + hit x a ≡ get_or table x 0
lower-at table a x h =
    ⊎_elim (λ (e : (x ≡ a) × (hit x a ≡ 1)). rw (e.0, get_or-set_same table a _ 0 (inside-table table a h)) (omega (arith, hit_same a)))
    (λ (e : (x ≡ a → ⊥) × (hit x a ≡ 0)). let d : x ≢ a = e.0 in rw get_or-set_other (omega (arith, e)))
    (hit-cases x a)
