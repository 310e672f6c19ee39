-- What the checker computes at every number of a run holds at each of them: one test, and one law that reads it.
use mathlib.Core.Path.{◌≡◌, subst, sym, ap, ◌∙◌}
use mathlib.Core.Bool.{Bool, true, ◌&&◌}
use Prim.Native.Nat.{ℕ, zero, suc, ◌+◌, ◌-◌, ◌≤◌, ◌<◌}
use native.Mathlib.Numerals.{add-one}
use native.Mathlib.Omega.{arith}
use lib.Dec.{eqb}
use borrow.Author.Count.{below_none, below_more}
use borrow.Author.Tests.{eqb-true}
use Rattle.descriptor.proofs.Truth as truth

-- The test passes at every number below n.
abbrev pub every : (ℕ → Bool) → ℕ → Bool
every test zero = true
every test (suc n) = every test n && test n

pub everywhere : (test : ℕ → Bool) (n : ℕ) → every test n ≡ true → (k : ℕ) → k < n → test k ≡ true
everywhere test zero t k h = below_none (λ (m : ℕ). test m ≡ true) k h
everywhere test (suc n) t k h =
    let passed = truth.both (every test n) (test n) t in
    below_more (λ (m : ℕ). test m ≡ true) n (everywhere test n passed.0) passed.1 k
    (subst (λ (m : ℕ). k < m) (sym (add-one n)) h)

-- A function into values that have numbers of their own is `a` from low to high, as the test of these numbers says.
abbrev pub Throughout : {A : Type 0} → (A → ℕ) → (ℕ → A) → A → ℕ → ℕ → Type 0
Throughout number f a low high = every (λ k. eqb (number (f (low + k))) (number a)) (high + 1 - low) ≡ true

module _ {A : Type 0} (number : A → ℕ) (back : ℕ → A) (undone : (a : A) → back (number a) ≡ a) where
  pub throughout : (f : ℕ → A) (a : A) (low high : ℕ) → Throughout number f a low high → (n : ℕ) → low ≤ n → n ≤ high → f n ≡ a
  throughout f a low high t n l h =
      let here : low + (n - low) ≡ n = omega arith in
      let passed = everywhere (λ (k : ℕ). eqb (number (f (low + k))) (number a)) (high + 1 - low) t (n - low) (omega arith) in
      let same : number (f n) ≡ number a = subst (λ (m : ℕ). number (f m) ≡ number a) here (eqb-true (number (f (low + (n - low)))) (number a) passed) in
      sym (undone (f n)) ∙ (ap back same ∙ undone a)
