-- Words of 32 bits: what a store leaves, the parts of a segment, and the state words written anew.
use Prim.Native.Nat.{ℕ, zero, suc, ◌+◌, ◌*◌, ◌/◌, ◌^◌, ◌<◌}
use mathlib.Core.Path.{◌≡◌, refl, ap}
use mathlib.Core.Bool.{Bool, true, false, cond}
use mathlib.Core.List.{List, [], ◌∷◌}
use native.Mathlib.Omega.{arith}
use lib.ListN.{get_or, set}
use lib.Seq.{sets}
use Rattle.segment.specs.State.{sbase, lbase, rover, flags, set_ltop, set_lbase, set_rover, set_iorg}
use Rattle.segment.specs.Stack.{code_word_at, set_pctr}
use Rattle.segment.specs.Blocks.{part}
use Rattle.segment.specs.Lent.{Words}

-- one word after a store
pub set_below : (s : List ℕ) (i w j : ℕ) → get_or s j 0 < 2 ^ 32 → (j ≡ i → w < 2 ^ 32) → get_or (set s i w) j 0 < 2 ^ 32
set_below [] i w j h k = h
set_below (x ∷ s) zero w zero h k = k refl
set_below (x ∷ s) zero w (suc j) h k = h
set_below (x ∷ s) (suc i) w zero h k = h
set_below (x ∷ s) (suc i) w (suc j) h k = set_below s i w j h (λ e. k (ap suc e))

module _ (s : List ℕ) (h : Words s) where
  pub words-part : (a n : ℕ) → Words (part s a n)
  words-part a zero i = omega arith
  words-part a (suc n) zero = h a
  words-part a (suc n) (suc i) = words-part (a + 1) n i

  pub words-set : (i w : ℕ) → w < 2 ^ 32 → Words (set s i w)
  words-set i w k j = set_below s i w j (h j) (λ e. k)

pub words-sets : (s : List ℕ) → Words s → (i : ℕ) (ws : List ℕ) → Words ws → Words (sets s i ws)
words-sets s h i [] k = h
words-sets s h i (w ∷ ws) k = words-sets (set s i w) (words-set s h i w (k 0)) (suc i) ws (λ j. k (suc j))

-- A segment whose words have 32 bits, by which each law below knows what it speaks of.
pub record Short (s : List ℕ) : Type 0 where
  pub at : Words s

pub short-set : {s : List ℕ} → Short s → (i w : ℕ) → w < 2 ^ 32 → Short (set s i w)
short-set {s} h i w k = record { at = words-set s h.at i w k }

pub either : (b : Bool) {x y : List ℕ} → Short x → Short y → Short (cond b x y)
either true h k = h
either false h k = k

module _ {s : List ℕ} (h : Short s) where
  pub short-ltop : (v : ℕ) → v < 2 ^ 16 → Short (set_ltop s v)
  unfolding set_ltop
  short-ltop v k = short-set h 0 (sbase s * 2 ^ 16 + v) (omega (arith, h.at 0))

  pub short-lbase : (v : ℕ) → v < 2 ^ 16 → Short (set_lbase s v)
  unfolding set_lbase
  short-lbase v k = short-set h 1 (v * 2 ^ 16 + rover s) (omega arith)

  pub short-rover : (v : ℕ) → v < 2 ^ 16 → Short (set_rover s v)
  unfolding set_rover
  short-rover v k = short-set h 1 (lbase s * 2 ^ 16 + v) (omega (arith, h.at 1))

  pub short-iorg : (v : ℕ) → v < 2 → Short (set_iorg s v)
  unfolding set_iorg
  short-iorg v k = short-set h 2 (flags s / 2 * 2 + v) (omega (arith, h.at 2))

  pub short-pctr : (place : ℕ) → place < 2 ^ 16 → Short (set_pctr s place)
  unfolding set_pctr
  short-pctr place k =
      short-set h (sbase s + lbase s + 1) (code_word_at s (lbase s) / 2 ^ 16 * 2 ^ 16 + place) (omega (arith, h.at (sbase s + lbase s + 1)))
