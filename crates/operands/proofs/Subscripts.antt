-- A plan that goes on from operands taken as scalars, as INDEX and ASSIGN_INDEXED do.
use Prim.Native.Nat.{ℕ, zero, suc, ◌+◌}
use native.Mathlib.Omega.{arith}
use native.Mathlib.Numerals.{add-one}
use mathlib.Core.Path.{◌≡◌, refl, ap, ◌∙◌}
use mathlib.Core.Bool.{Bool, true, false, not, ◌||◌}
use mathlib.Core.List.{List, ◌∷◌}
use lib.ListN.{take, get_or}
use Rattle.segment.specs.Cells.{Cell}
use Rattle.manual.specs.OrTrap.{OrTrap, gives, and_then, stop_if}
use Rattle.manual.specs.Seen.{Seen}
use Rattle.manual.specs.Scalars.{operands, is_scalar_cell, any_cell, cell_word, scalar_words}
use Rattle.operands.specs.Taken.{is_foreign_to, scalars_of, taken_of}

-- (5,0) is also for what is indexed where that is no array.
pub taken-plan : {A : Type 0} (strict single : Bool) (cells : List Cell) (next : List ℕ → OrTrap A) → and_then (taken_of strict cells) (λ words. stop_if single 5 0 (next words)) ≡ stop_if (any_cell (is_foreign_to strict) cells) 3 5 (stop_if (single || any_cell (λ c. not (is_scalar_cell c)) cells) 5 0 (next (scalar_words cells)))
unfolding taken_of scalars_of
taken-plan {A} strict single cells next = by_tests (any_cell (is_foreign_to strict) cells) single (any_cell (λ c. not (is_scalar_cell c)) cells)
  where
    by_tests : (foreign single other : Bool) → and_then (stop_if foreign 3 5 (stop_if other 5 0 (gives (scalar_words cells)))) (λ words. stop_if single 5 0 (next words)) ≡ stop_if foreign 3 5 (stop_if (single || other) 5 0 (next (scalar_words cells)))
    by_tests true single other = refl
    by_tests false true true = refl
    by_tests false true false = refl
    by_tests false false true = refl
    by_tests false false false = refl

-- Of n + 1 operands, the words of the first n, and of the last.
pub words-before : (seen : Seen) (i n : ℕ) → take n (scalar_words (operands seen i (n + 1))) ≡ scalar_words (operands seen i n)
words-before seen i n = rw (add-one n) (by_count n i)
  where
    by_count : (n i : ℕ) → take n (scalar_words (operands seen i (suc n))) ≡ scalar_words (operands seen i n)
    by_count zero i = refl
    by_count (suc n) i = ap (λ (words : List ℕ). cell_word (seen.operand i) ∷ words) (by_count n (suc i))

pub word-last : (seen : Seen) (i n : ℕ) → get_or (scalar_words (operands seen i (n + 1))) n 0 ≡ cell_word (seen.operand (i + n))
word-last seen i n = rw (add-one n) (by_count n i)
  where
    by_count : (n i : ℕ) → get_or (scalar_words (operands seen i (suc n))) n 0 ≡ cell_word (seen.operand (i + n))
    by_count zero i = let none : i + 0 ≡ i = omega arith in rw none
    by_count (suc n) i = let next : suc i + n ≡ i + suc n = omega arith in by_count n (suc i) ∙ rw next
