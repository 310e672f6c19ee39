-- The variables of the frames from one down, and the loop that marks them.
use Prim.Native.Nat.{ℕ, zero, suc, ◌+◌, ◌-◌, ◌<◌, ◌≤◌}
use mathlib.Core.Path.{◌≡◌, refl, ◌∙◌}
use mathlib.Core.Bool.{cond}
use mathlib.Core.List.{List, [], ◌++◌}
use native.Mathlib.Omega.{arith}
use lib.ListN.{get_or, length}
use lib.Dec.{leb}
use borrow.Author.Tests.{le-leb, lt-leb}
use Rattle.segment.specs.Stack.{last_lbase_at, code_word_at}
use Rattle.storage.specs.Heap.{count}
use Rattle.acceptance_storage.specs.Marks.{Tally}
use Rattle.storage_theorems.proofs.Counts.{count-append}
use Rattle.acceptance.specs.Cells.{range, variables_from}
use Rattle.acceptance.specs.Tables.{Gains}
use Rattle.acceptance.proofs.Ranges.{range-once}

module _ (size : ℕ → ℕ) (s : List ℕ) (base : ℕ) where
  pub variables-none : (n : ℕ) → n ≤ 0 → variables_from n size s base ≡ []
  unfolding variables_from
  variables-none zero h = refl
  variables-none (suc n) h = absurd (omega arith)

  pub variables-step : (n : ℕ) → 0 < n → variables_from n size s base
      ≡ range (base - size (code_word_at s base)) (base - (base - size (code_word_at s base)))
      ++ cond (leb base (last_lbase_at s base)) [] (variables_from (n - 1) size s (last_lbase_at s base))
  unfolding variables_from
  variables-step zero h = absurd (omega arith)
  variables-step (suc n) h = let e : suc n - 1 ≡ n = omega arith in rw e

  module _ {start last : ℕ} (es : start ≡ base - size (code_word_at s base)) (el : last ≡ last_lbase_at s base) (n : ℕ) (pos : 0 < n) (x : ℕ) where
    pub variables-bottom : base ≤ last → count x (variables_from n size s base) ≡ count x (range start (base - start))
    variables-bottom h =
        let z : variables_from n size s base ≡ range start (base - start) ++ [] = variables-step n pos ∙ rw (← es) (simp (le-leb base (last_lbase_at s base) (rw el at h))) in
        rw z (omega (arith, count-append x (range start (base - start)) []))

    pub variables-on : last < base
        → count x (variables_from n size s base) ≡ count x (range start (base - start)) + count x (variables_from (n - 1) size s last)
    variables-on h =
        let z : variables_from n size s base ≡ range start (base - start) ++ variables_from (n - 1) size s last
        = variables-step n pos ∙ rw (← es) (simp (lt-leb base (last_lbase_at s base) (rw el at h), el)) in
        rw z (count-append x (range start (base - start)) (variables_from (n - 1) size s last))

-- What is marked and what is left make up the whole.
pub record Marked (size : ℕ → ℕ) (s : List ℕ) (from : ℕ) (before table : List ℕ) (base left : ℕ) : Type 0 where
  pub long : length table ≡ length before
  pub low : base ≤ length table
  pub room : (x : ℕ) → get_or table x 0 + base < 16384
  pub sum : (x : ℕ) → get_or table x 0 + count x (variables_from left size s base) ≡ count x (variables_from (length s) size s from)

pub marked_start : (size : ℕ → ℕ) (s : List ℕ) (from : ℕ) (table : List ℕ) → from < 16384 → from ≤ length table → Tally table []
    → {left : ℕ} → left ≡ length s → Marked size s from table table from left
marked_start size s from table l k z all =
    rw all (record { long = refl; low = k; room = λ x. omega (arith, z x); sum = λ x. omega (arith, z x) })

module _ {size : ℕ → ℕ} {s : List ℕ} {from : ℕ} {before table : List ℕ} {base left : ℕ} (h : Marked size s from before table base left) where
  pub marked-none : left ≤ 0 → Tally table (variables_from (length s) size s from)
  marked-none z x = omega (arith, rw (variables-none size s base left z) at (h.sum x))

  module _ (pos : 0 < left) {start last : ℕ} (es : start ≡ base - size (code_word_at s base)) (el : last ≡ last_lbase_at s base)
      {after : List ℕ} (g : Gains table after (range start (base - start))) where
    pub marked-bottom : base ≤ last → Tally after (variables_from (length s) size s from)
    marked-bottom l x = omega (arith, g.sum x, h.sum x, variables-bottom size s base es el left pos x l)

    pub marked-on : last < base → length after ≡ length table → {less : ℕ} → less ≡ left - 1 → Marked size s from before after last less
    marked-on l k fewer = rw fewer (record {
      long = k ∙ h.long;
      low = omega (arith, k, h.low);
      room = λ x. omega (arith, g.sum x, h.room x, range-once start (base - start) x);
      sum = λ x. omega (arith, g.sum x, h.sum x, variables-on size s base es el left pos x l);
    })
