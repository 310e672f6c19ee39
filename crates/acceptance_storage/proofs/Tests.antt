-- Tests put together: what it is that they pass.
use Prim.Native.Nat.{ℕ, zero, suc, ◌+◌, ◌≤◌, ◌<◌}
use mathlib.Core.Path.{◌≡◌, refl, ◌∙◌, ap}
use mathlib.Core.Bool.{Bool, true, false, cond, ◌&&◌, and-false}
use mathlib.Core.List.{List, [], ◌∷◌}
use mathlib.Core.Logic.{⊎_elim}
use native.Mathlib.Numerals.{add-one}
use native.Mathlib.Omega.{arith}
use lib.ListN.{get_or, length, drop, drop_of_length-le}
use lib.Seq.{drop-cons}
use Rattle.segment.specs.Blocks.{part}
pub use mathlib.Core.Bool.{false≢true as never}
pub use Rattle.descriptor.proofs.Truth.{fails, both, by_le, by-eq}
use Rattle.storage.specs.Heap.{count}
use Rattle.storage_theorems.proofs.Counts.{hit-cases, hit_same}
use Rattle.acceptance_storage.specs.Tests.{every, words_where}

pub passes : {a b : Bool} → a ≡ true → b ≡ true → (a && b) ≡ true
passes {a} {b} p q = ap (λ (t : Bool). t && b) p ∙ q

pub second-fails : (a : Bool) {b : Bool} → b ≡ false → (a && b) ≡ false
second-fails a q = rw q (and-false a)

pub either : (a : Bool) {b : Bool} → b ≡ true → cond a true b ≡ true
either true e = refl
either false e = e

-- a test of every member, and of each of a list
pub every-at : (test : ℕ → Bool) (l : List ℕ) → every test l ≡ true → (x : ℕ) → 0 < count x l → test x ≡ true
every-at test [] h x k = absurd (omega arith)
every-at test (y ∷ l) h x k =
    let r = both (test y) (every test l) h in
    ⊎_elim (λ e. ap test e.0 ∙ r.0) (λ e. every-at test l r.1 x (omega (arith, e, k))) (hit-cases x y)

pub every-all : (test : ℕ → Bool) (l : List ℕ) → ((x : ℕ) → 0 < count x l → test x ≡ true) → every test l ≡ true
every-all test [] h = refl
every-all test (y ∷ l) h = passes (h y (omega (arith, hit_same y))) (every-all test l (λ x k. h x (omega arith)))

pub words-every : (n : ℕ) (test : ℕ → Bool) (s : List ℕ) (i : ℕ) → words_where n test s i ≡ every test (part s i n)
unfolding words_where
words-every zero test s i = refl
words-every (suc n) test s i = ap (λ (b : Bool). test (get_or s i 0) && b) (words-every n test s (i + 1))

-- a turn of a loop over a list
module _ (test : ℕ → Bool) (l : List ℕ) (i : ℕ) where
  every-step : i < length l → every test (drop i l) ≡ (test (get_or l i 0) && every test (drop (i + 1) l))
  every-step h = ap (every test) (drop-cons l i 0 h) ∙ rw add-one

  pub every-on : i < length l → test (get_or l i 0) ≡ true → every test (drop i l) ≡ every test (drop (i + 1) l)
  every-on h e = every-step h ∙ ap (λ (b : Bool). b && every test (drop (i + 1) l)) e

  pub every-bad : i < length l → test (get_or l i 0) ≡ false → every test (drop i l) ≡ false
  every-bad h e = every-step h ∙ ap (λ (b : Bool). b && every test (drop (i + 1) l)) e

  pub every-end : length l ≤ i → every test (drop i l) ≡ true
  every-end h = ap (every test) (drop_of_length-le l h)
