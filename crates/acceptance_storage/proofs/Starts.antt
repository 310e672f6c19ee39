-- Where blocks start, and the walk's test: a block at a time.
use Prim.Native.Nat.{ℕ, zero, suc, ◌+◌, ◌-◌, ◌<◌, ◌≤◌}
use mathlib.Core.Path.{◌≡◌, refl, ◌∙◌}
use mathlib.Core.Bool.{Bool, true, false, cond, not}
use mathlib.Core.List.{List, [], ◌∷◌}
use native.Mathlib.Omega.{arith}
use lib.ListN.{get_or, length}
use lib.Dec.{leb, eqb}
use borrow.Author.Tests.{le-leb, lt-leb, eq-eqb, ne_eqb}
use Rattle.segment.specs.Blocks.{free_at, span_at}
use Rattle.storage.specs.Heap.{prev_free_bit}
use Rattle.acceptance_storage.specs.Blocks.{block_span, walk_from, starts_from}

pub starts-few : (kind : Bool) (s : List ℕ) (end n a : ℕ) → length (starts_from kind n s a end) ≤ n
unfolding starts_from
starts-few kind s end zero a = omega arith
starts-few kind s end (suc n) a = go (leb end a) (cond kind (free_at s a) (not (free_at s a))) (starts-few kind s end n (a + span_at s a))
  where
    go : (b c : Bool) → length (starts_from kind n s (a + span_at s a) end) ≤ n
        → length (cond b [] (cond c (a ∷ starts_from kind n s (a + span_at s a) end) (starts_from kind n s (a + span_at s a) end))) ≤ suc n
    go true c h = omega arith
    go false true h = omega arith
    go false false h = omega arith

module _ (s : List ℕ) (a end n : ℕ) (left : 0 < n) where
  starts-step : (kind : Bool) (m : ℕ) → 0 < m
      → starts_from kind m s a end ≡ cond (leb end a) [] (cond (cond kind (free_at s a) (not (free_at s a))) (a ∷ starts_from kind (m - 1) s (a + span_at s a) end) (starts_from kind (m - 1) s (a + span_at s a) end))
  unfolding starts_from
  starts-step kind zero h = absurd (omega arith)
  starts-step kind (suc m) h = let e : suc m - 1 ≡ m = omega arith in rw e

  pub starts-end : (kind : Bool) → end ≤ a → starts_from kind n s a end ≡ []
  starts-end kind h = starts-step kind n left ∙ simp (le-leb _ _ h)

  module _ (low : a < end) where
    pub free-hit : free_at s a ≡ true → starts_from true n s a end ≡ a ∷ starts_from true (n - 1) s (a + span_at s a) end
    free-hit f = starts-step true n left ∙ simp (lt-leb _ _ low, f)

    pub free-miss : free_at s a ≡ false → starts_from true n s a end ≡ starts_from true (n - 1) s (a + span_at s a) end
    free-miss f = starts-step true n left ∙ simp (lt-leb _ _ low, f)

    pub array-hit : free_at s a ≡ false → starts_from false n s a end ≡ a ∷ starts_from false (n - 1) s (a + span_at s a) end
    array-hit f = starts-step false n left ∙ simp (lt-leb _ _ low, f)

    pub array-miss : free_at s a ≡ true → starts_from false n s a end ≡ starts_from false (n - 1) s (a + span_at s a) end
    array-miss f = starts-step false n left ∙ simp (lt-leb _ _ low, f)

  module _ (before : Bool) where
    walk_step : (m : ℕ) → 0 < m
        → walk_from m s a before end ≡ cond (eqb a end) (eqb (get_or s a 0) (prev_free_bit before)) (cond (eqb (block_span s a before) 0) false (cond (leb (a + block_span s a before) end) (walk_from (m - 1) s (a + block_span s a before) (free_at s a) end) false))
    unfolding walk_from
    walk_step zero h = absurd (omega arith)
    walk_step (suc m) h = let e : suc m - 1 ≡ m = omega arith in rw e

    pub walk_end : a ≡ end → walk_from n s a before end ≡ eqb (get_or s a 0) (prev_free_bit before)
    walk_end h = walk_step n left ∙ simp (eq-eqb _ _ h)

    module _ (on : a ≡ end → ⊥) where
      pub walk-bad : block_span s a before ≡ 0 → walk_from n s a before end ≡ false
      walk-bad k = walk_step n left ∙ simp (ne_eqb _ _ on, eq-eqb _ _ k)

      module _ (proper : block_span s a before ≡ 0 → ⊥) where
        pub walk-past : end < a + block_span s a before → walk_from n s a before end ≡ false
        walk-past l = walk_step n left ∙ simp (ne_eqb _ _ on, ne_eqb _ _ proper, lt-leb _ _ l)

        pub walk-on : a + block_span s a before ≤ end → walk_from n s a before end ≡ walk_from (n - 1) s (a + block_span s a before) (free_at s a) end
        walk-on l = walk_step n left ∙ simp (ne_eqb _ _ on, ne_eqb _ _ proper, le-leb _ _ l)

pub walk_none : (n : ℕ) (s : List ℕ) (a : ℕ) (before : Bool) (end : ℕ) → n ≤ 0 → walk_from n s a before end ≡ false
unfolding walk_from
walk_none zero s a before end h = refl
walk_none (suc n) s a before end h = absurd (omega arith)

pub starts_none : (kind : Bool) (n : ℕ) (s : List ℕ) (a end : ℕ) → n ≤ 0 → starts_from kind n s a end ≡ []
unfolding starts_from
starts_none kind zero s a end h = refl
starts_none kind (suc n) s a end h = absurd (omega arith)
