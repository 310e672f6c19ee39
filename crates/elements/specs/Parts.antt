-- What the contracts of the inner functions say. Nothing here need be believed: the public contracts do not cite it.
-- Assumes nothing.
use Rattle.std.specs.Prelude.{ℕ, ◌+◌, ◌/◌, ◌%◌, ◌^◌, ◌<◌, ◌≤◌, ◌≡◌, Bool, true, cond, List, eqb, length}
use Rattle.std.specs.Int.Bits.{bit_and, bit_or}
use Rattle.scalar.specs.Results.{Answer}
use Rattle.segment.specs.Blocks.{product}
use Rattle.manual.specs.OrTrap.{gives}
use Rattle.manual.specs.Values.{answered, extent, pairwise, in_ranges}

-- An operand for n elements has one, or n.
pub record Spans (n : ℕ) (a : List ℕ) : Type 0 where
  pub fits : (length a ≡ 1 → ⊥) → length a ≡ n

-- Two operands for n results.
pub record Operands (a b : List ℕ) (n : ℕ) : Type 0 where
  pub count : n ≡ extent a b
  pub first : Spans n a
  pub second : Spans n b

-- Where a fast loop says so, the words that it wrote are the results of all pairs.
abbrev pub Relied : (ℕ → ℕ → Answer) → Bool → List ℕ → List ℕ → List ℕ → Type 0
Relied f says a b words = says ≡ true → gives words ≡ pairwise (λ x y. answered (f x y)) a b

-- Bits 30–23 are clear: an integer's word, if it is a scalar's.
abbrev pub Plain : ℕ → Type 0
Plain w = w / 2 ^ 23 % 2 ^ 8 ≡ 0

-- The bits that every word so far has, where floats are expected, or that any has, where integers are: with two words more.
abbrev pub seen_with : Bool → ℕ → ℕ → ℕ → ℕ
seen_with floats seen x y = cond floats (bit_and (bit_and seen x) y) (bit_or (bit_or seen x) y)

-- Whether these bits say that all were of that kind.
abbrev pub one_kind : Bool → ℕ → Bool
one_kind floats seen = cond floats (eqb (seen / 2 ^ 30 % 2) 1) (eqb (seen / 2 ^ 23 % 2 ^ 8) 0)

-- o is 2 ^ 24 plus the number of sign s and magnitude n.
pub record Offset (s n o : ℕ) : Type 0 where
  pub plus : s ≡ 0 → o ≡ 2 ^ 24 + n
  pub minus : s ≡ 1 → o + n ≡ 2 ^ 24
  pub small : o < 2 ^ 25

-- r is the word of the number that t is 2 ^ 25 above.
pub record Back (t r : ℕ) : Type 0 where
  pub low : t < 2 ^ 25 → r + t ≡ 2 ^ 31 + 2 ^ 25
  pub high : 2 ^ 25 ≤ t → r + 2 ^ 25 ≡ t

-- Subscripts that lead to a place of an array with these lengths.
abbrev pub Within : ℕ → List ℕ → List ℕ → Type 0
Within origin subscripts lengths =
    (length subscripts ≡ length lengths) × (product lengths ≤ 65536) × (in_ranges origin subscripts lengths ≡ true)
