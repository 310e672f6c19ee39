-- Words that stand in the code, one after the other.
use Prim.Native.Nat.{ℕ, zero, suc, ◌+◌, ◌*◌, ◌%◌, ◌^◌, ◌≤◌, ◌<◌}
use native.Mathlib.Nat.{mod-eq_of_lt}
use native.Mathlib.Omega.{arith}
use mathlib.Core.Path.{◌≡◌, sym, ap, ◌∙◌}
use mathlib.Core.List.{List, ◌++◌}
use lib.ListN.{get_or, length, set, take}
use lib.Seq.{take_at, length-take-le}
use Rattle.procedure.specs.Bytes.{word_at}
use Rattle.manual.specs.Loads.{constant_vector}
use Rattle.manual.specs.Instructions.{words_from}
use Rattle.manual.proofs.Elements.{words-length}
use Rattle.effects.specs.Seen.{seen}
use Rattle.elements.proofs.Filling.{Filled, filled_on, filled-all}
use Rattle.effects.specs.Carried.{carry}

words-at : (n : ℕ) (code : List ℕ) (place i : ℕ) → i < n → get_or (words_from n code place) i 0 ≡ word_at code (place + 4 * i)
words-at zero code place i below = absurd (omega arith)
words-at (suc n) code place zero below = let same : place ≡ place + 4 * 0 = omega arith in ap (word_at code) same
words-at (suc n) code place (suc i) below =
    let same : place + 4 + 4 * i ≡ place + 4 * suc i = omega arith in
    words-at n code (place + 4) i (omega arith) ∙ ap (word_at code) same

-- They are written from the first on.
module _ (n : ℕ) (code : List ℕ) (place : ℕ) {d₀ d : List ℕ} {i : ℕ} (so_far : Filled (words_from n code place) d₀ d i) (room : length d₀ ≡ n) where
  pub word-written : (w : ℕ) → i < n → w ≡ word_at code (place + 4 * i) → Filled (words_from n code place) d₀ (set d i w) (i + 1)
  word-written w below e = filled_on so_far (omega (arith, words-length n code place)) (omega arith) (e ∙ sym (words-at n code place i below))

  pub words-written : i ≡ n → d ≡ words_from n code place
  words-written e = filled-all so_far (words-length n code place ∙ sym e) (room ∙ sym e)

-- They stand in front of what was there before.
module _ (n : ℕ) (code : List ℕ) (place : ℕ) (scratch out rest : List ℕ) (written : out ≡ words_from (length (take n scratch)) code place) (room : n ≤ length scratch) where
  all-written : out ≡ words_from n code place
  all-written = written ∙ rw (length-take-le n scratch room)

  words-kept : take n (out ++ rest) ≡ words_from n code place
  words-kept = take_at out rest n (ap length all-written ∙ words-length n code place) ∙ all-written

  pub kept-length : n ≡ length (take n (out ++ rest))
  kept-length = sym (ap length words-kept ∙ words-length n code place)

  pub kept-below : (m : ℕ) → n < m → length (take n (out ++ rest)) < m
  kept-below m below = rw (← kept-length) below

  pub kept-vector : (s : List ℕ) (next : ℕ) → n < 2 ^ 8 → carry s (constant_vector (seen s) next (take n (out ++ rest))) ≡ carry s (constant_vector (seen s) next (words_from (n % 2 ^ 8) code place))
  kept-vector s next below = rw (words-kept, mod-eq_of_lt below)
