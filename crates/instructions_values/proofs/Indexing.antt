-- INDEX by the ways through it.
use Prim.Native.Nat.{ℕ, ◌+◌, ◌≤◌}
use native.Mathlib.Omega.{arith}
use mathlib.Core.Path.{◌≡◌, sym, ◌∙◌}
use mathlib.Core.Bool.{false, not, ◌||◌}
use mathlib.Core.List.{List, [], ◌∷◌}
use lib.Dec.{eqb}
use lib.ListN.{get_or, length}
use borrow.Author.Tests.{eq-eqb, ne_eqb}
use Rattle.segment.specs.State.{flags, iorg}
use Rattle.manual.specs.OrTrap.{gives, trap, and_then, stop_if}
use Rattle.manual.specs.Effects.{word, replaces, jumps, Plan}
use Rattle.manual.specs.Values.{Value, rank, ravel_place}
use Rattle.manual.specs.Scalars.{is_foreign, is_scalar_cell, any_cell, operands, scalar_words, index}
use Rattle.effects.specs.Seen.{seen}
use Rattle.operands.specs.declared.reading.Value.{Value as Operand}
use Rattle.operands.specs.Operands.{held}
use Rattle.operands.specs.Taken.{taken_of}
use Rattle.operands.proofs.Seen.{origin-seen}
use Rattle.operands.proofs.Subscripts.{taken-plan}
use Rattle.instructions_values.specs.Parts.{First, indexed}

-- The subscripts are taken, and lead to a place.
module _ (origin next : ℕ) (subscripts : List ℕ) (a : Value) where
  pub indexed-unlike : (length subscripts ≡ length a.shape → ⊥) → trap 9 1 ≡ indexed origin next subscripts a
  unfolding indexed
  indexed-unlike unlike = simp (ne_eqb (length subscripts) (length a.shape) unlike)

  module _ (alike : length subscripts ≡ length a.shape) where
    pub indexed-trap : (class number : ℕ) → trap class number ≡ ravel_place origin subscripts a.shape → trap class number ≡ indexed origin next subscripts a
    unfolding indexed
    indexed-trap class number e = simp (eq-eqb (length subscripts) (length a.shape) alike, ← e)

    pub indexed-at : (k : ℕ) → gives k ≡ ravel_place origin subscripts a.shape → gives (replaces (length subscripts + 1) (word (get_or a.ravel k 0)) ∷ jumps next ∷ []) ≡ indexed origin next subscripts a
    unfolding indexed
    indexed-at k e = simp (eq-eqb (length subscripts) (length a.shape) alike, ← e)

-- What is indexed is a value.
module _ (s : List ℕ) (next n : ℕ) {v : Operand} (f : First s (n + 1) v) where
  abbrev subscripts_with : ℕ → ℕ → Value → List ℕ → Plan
  subscripts_with origin n a words =
      and_then (stop_if (not (eqb n (length a.shape))) 9 1 (ravel_place origin words a.shape)) (λ k.
      gives (replaces (n + 1) (word (get_or a.ravel k 0)) ∷ jumps next ∷ []))

  abbrev cells : Value → Plan
  cells a =
      stop_if (any_cell is_foreign (operands (seen s) 1 n)) 3 5
      (stop_if (eqb (rank a) 0 || any_cell (λ c. not (is_scalar_cell c)) (operands (seen s) 1 n)) 5 0
      (subscripts_with (seen s).origin n a (scalar_words (operands (seen s) 1 n))))

  pub index-taken : index (seen s) next n ≡ and_then (taken_of false (operands (seen s) 1 n)) (λ words. stop_if (eqb (rank (held s v)) 0) 5 0 (subscripts_with (iorg (flags s)) n (held s v) words))
  unfolding index
  index-taken =
      rw (← origin-seen s)
      (f.goes cells
      ∙ sym (taken-plan false (eqb (rank (held s v)) 0) (operands (seen s) 1 n) (subscripts_with (seen s).origin n (held s v))))

  -- The words are so many, and it is an array.
  pub index-words : (words : List ℕ) → length words ≡ n → (1 ≤ rank (held s v)) → gives words ≡ taken_of false (operands (seen s) 1 n) → index (seen s) next n ≡ indexed (iorg (flags s)) next words (held s v)
  unfolding indexed
  index-words words few ranked e = rw (index-taken, ← e, ← few) (simp (ne_eqb (rank (held s v)) 0 (λ none. omega arith)))
