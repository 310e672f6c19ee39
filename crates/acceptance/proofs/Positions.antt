-- Where the words of a run stand: tests of words, cells from the highest down, and addresses of a range, each by position.
use Prim.Native.Nat.{ℕ, zero, suc, ◌+◌, ◌<◌, ◌≤◌}
use mathlib.Core.Path.{◌≡◌, refl, sym}
use mathlib.Core.Bool.{Bool, true}
use mathlib.Core.List.{List}
use mathlib.Core.Logic.{⊎_elim}
use native.Mathlib.Omega.{arith}
use lib.ListN.{get_or}
use Rattle.segment.specs.Stack.{downward}
use Rattle.storage.specs.Heap.{hit, count}
use Rattle.storage_theorems.proofs.Counts.{hit-cases}
use Rattle.acceptance_storage.specs.Tests.{words_where}
use Rattle.descriptor.proofs.Truth.{by_le}
use Rattle.acceptance_storage.proofs.Tests.{both, passes}
use Rattle.acceptance.specs.Cells.{range}

pub words-at : (n : ℕ) (test : ℕ → Bool) (s : List ℕ) (a : ℕ) → words_where n test s a ≡ true → (i : ℕ) → a ≤ i → i < a + n → test (get_or s i 0) ≡ true
unfolding words_where
words-at zero test s a h i l u = absurd (omega arith)
words-at (suc n) test s a h i l u =
    let r = both (test (get_or s a 0)) (words_where n test s (a + 1)) h in
    by_le (a + 1) i (λ m. words-at n test s (a + 1) r.1 i m (omega arith)) (λ m. let e : i ≡ a = omega arith in rw e r.0)

pub words-all : (n : ℕ) (test : ℕ → Bool) (s : List ℕ) (a : ℕ) → ((i : ℕ) → a ≤ i → i < a + n → test (get_or s i 0) ≡ true) → words_where n test s a ≡ true
unfolding words_where
words-all zero test s a h = refl
words-all (suc n) test s a h = passes (h a (omega arith) (omega arith)) (words-all n test s (a + 1) (λ i l u. h i (omega arith) (omega arith)))

-- A word among the cells stands somewhere.
pub downward-at : (w : ℕ) (s : List ℕ) (a n : ℕ) → 0 < count w (downward s a n) → (i : ℕ) × (a ≤ i) × (i < a + n) × (get_or s i 0 ≡ w)
downward-at w s a zero h = absurd (omega arith)
downward-at w s a (suc n) h =
    ⊎_elim (λ (e : (w ≡ get_or s (a + n) 0) × (hit w (get_or s (a + n) 0) ≡ 1)). (a + n, omega arith, omega arith, sym e.0))
    (λ (e : (w ≡ get_or s (a + n) 0 → ⊥) × (hit w (get_or s (a + n) 0) ≡ 0)).
    let r = downward-at w s a n (omega (arith, e.1)) in (r.0, r.1, omega (arith, r.2), r.3))
    (hit-cases w (get_or s (a + n) 0))

pub range-in : (a n x : ℕ) → 0 < count x (range a n) → (a ≤ x) × (x < a + n)
range-in a zero x h = absurd (omega arith)
range-in a (suc n) x h =
    ⊎_elim (λ (e : (x ≡ a) × (hit x a ≡ 1)). (omega (arith, e.0), omega (arith, e.0)))
    (λ (e : (x ≡ a → ⊥) × (hit x a ≡ 0)). let r = range-in (a + 1) n x (omega (arith, e.1)) in (omega (arith, r.0), omega (arith, r.1)))
    (hit-cases x a)

pub range-has : (a n x : ℕ) → a ≤ x → x < a + n → 0 < count x (range a n)
range-has a zero x l u = absurd (omega arith)
range-has a (suc n) x l u =
    ⊎_elim (λ (e : (x ≡ a) × (hit x a ≡ 1)). omega (arith, e.1))
    (λ (e : (x ≡ a → ⊥) × (hit x a ≡ 0)). let d : a + 1 ≤ x = omega (arith, e.0) in omega (arith, range-has (a + 1) n x d (omega arith)))
    (hit-cases x a)
