-- What is done with the counts behind a cell's word, by its ways.
use Rattle.std.proofs.Common.{◌≡◌, ℕ, zero, suc, ◌+◌, ◌-◌, ◌^◌, ◌<◌, ◌≤◌, true, false, List, get_or, set, refl, arith, eq-eqb, ne_eqb}
use Rattle.descriptor.specs.Fields.{is_array, address}
use Rattle.segment.specs.Blocks.{count_at}
use Rattle.storage.specs.Release.{release}
use Rattle.storage.specs.Arrays.{raise, lower, share, drop_word, drop_words}

module _ (s : List ℕ) (w : ℕ) where
  pub share-array : is_array w ≡ true → share s w ≡ raise s (address w)
  unfolding share
  share-array array = simp array

  pub share_other : is_array w ≡ false → share s w ≡ s
  unfolding share
  share_other other = simp other

  pub drop-array : is_array w ≡ true → drop_word s w ≡ lower s (address w)
  unfolding drop_word
  drop-array array = simp array

  pub drop-other : is_array w ≡ false → drop_word s w ≡ s
  unfolding drop_word
  drop-other other = simp other

module _ (s : List ℕ) (a : ℕ) where
  pub lower_last : count_at s a ≡ 1 → lower s a ≡ release s a
  unfolding lower
  lower_last last = simp (eq-eqb _ _ last)

  pub lower-further : (count_at s a ≡ 1 → ⊥) → lower s a ≡ set s (a + 1) (get_or s (a + 1) 0 - 2 ^ 16)
  unfolding lower
  lower-further further = simp (ne_eqb _ _ further)

pub drops-on : (n : ℕ) (s : List ℕ) (a : ℕ) → 0 < n → drop_words n s a ≡ drop_words (n - 1) (drop_word s (get_or s (a + (n - 1)) 0)) a
drops-on zero s a more = absurd (omega arith)
drops-on (suc n) s a more = let e : suc n - 1 ≡ n = omega arith in rw e

pub drops-none : (n : ℕ) (s : List ℕ) (a : ℕ) → n ≤ 0 → drop_words n s a ≡ s
drops-none zero s a none = refl
drops-none (suc n) s a none = absurd (omega arith)
