-- ROVER's move, and a release, by their ways.
use Rattle.std.proofs.Common.{◌≡◌, ℕ, ◌+◌, ◌-◌, Bool, true, false, List, sym, ◌∙◌, eq-eqb, ne_eqb}
use Rattle.segment.specs.State.{rover, set_rover}
use Rattle.segment.specs.Blocks.{size_at, span_at, prev_free_at, free_at}
use Rattle.storage.specs.Ring.{move_rover}
use Rattle.storage.specs.Release.{release, join_both, join_before, join_after, join_none}

module _ (s : List ℕ) (vanished merged : ℕ) where
  pub move_rover-on : rover s ≡ vanished → move_rover s vanished merged ≡ set_rover s merged
  unfolding move_rover
  move_rover-on on = simp (eq-eqb _ _ on)

  pub move_rover-off : (rover s ≡ vanished → ⊥) → move_rover s vanished merged ≡ s
  unfolding move_rover
  move_rover-off off = simp (ne_eqb _ _ off)

module _ (s : List ℕ) (a : ℕ) where
  pub release-both : prev_free_at s a ≡ true → free_at s (a + span_at s a) ≡ true
      → release s a ≡ join_both s (a - size_at s (a - 1)) (size_at s (a - 1) + span_at s a) (a + span_at s a)
  unfolding release
  release-both before after = simp (before, after)

  pub release-before : prev_free_at s a ≡ true → free_at s (a + span_at s a) ≡ false
      → release s a ≡ join_before s (a - size_at s (a - 1)) (size_at s (a - 1) + span_at s a) (a + span_at s a)
  unfolding release
  release-before before after = simp (before, after)

  pub release-after : prev_free_at s a ≡ false → free_at s (a + span_at s a) ≡ true → release s a ≡ join_after s a (span_at s a) (a + span_at s a)
  unfolding release
  release-after before after = simp (before, after)

  pub release-none : prev_free_at s a ≡ false → free_at s (a + span_at s a) ≡ false → release s a ≡ join_none s a (span_at s a) (a + span_at s a)
  unfolding release
  release-none before after = simp (before, after)

-- a release by what the code has in hand: the array's number and span, the block after, the two tests, and the start of the free block before
module _ (s : List ℕ) {t : List ℕ} (a : ℕ) {number span after : ℕ} {low high : Bool}
    (numbered : number ≡ a) (spanned : span ≡ span_at s a) (behind : after ≡ number + span) (low_test : low ≡ prev_free_at s a) (high_test : high ≡ free_at s after) where
  module _ {i last size d p : ℕ} (one : i ≡ number - 1) (at : last ≡ i) (sized : size ≡ size_at s last) (less : d ≡ number - size) (start : p ≡ d) where
    pub released-both : low ≡ true → high ≡ true → t ≡ join_both s p (size + span) after → t ≡ release s a
    released-both l h joined = (cc) ∙ sym (release-both s a (cc) (cc))

    pub released-before : low ≡ true → high ≡ false → t ≡ join_before s p (size + span) after → t ≡ release s a
    released-before l h joined = (cc) ∙ sym (release-before s a (cc) (cc))

  pub released-after : low ≡ false → high ≡ true → t ≡ join_after s a span after → t ≡ release s a
  released-after l h joined = (cc) ∙ sym (release-after s a (cc) (cc))

  pub released-none : low ≡ false → high ≡ false → t ≡ join_none s a span after → t ≡ release s a
  released-none l h joined = (cc) ∙ sym (release-none s a (cc) (cc))
