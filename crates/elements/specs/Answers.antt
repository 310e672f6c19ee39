-- What the answers of the loops say, in the manual's terms, and what the loop over two operands asks of them.
-- A reader must believe: an answer is read so. Assumes nothing.
use Rattle.std.specs.Prelude.{ℕ, ◌≡◌, List, [], ◌∷◌, length, Result, Ok, Err}
use Rattle.trap.specs.declared.Trap.{Trap}
use Rattle.descriptor.specs.Fields.{is_character}
use Rattle.operator.specs.declared.Monadic.{Monadic}
use Rattle.operator.specs.declared.Dyadic.{Dyadic}
use Rattle.scalar.specs.Operators.{monadic_of, dyadic_of}
use Rattle.manual.specs.OrTrap.{OrTrap, gives, trap, stop_if}
use Rattle.manual.specs.Values.{answered, any, each, pairwise, shorts}
use Rattle.elements.specs.declared.Side.{Side}
use Rattle.elements.specs.declared.Side.TheVariants as S
use Rattle.elements.specs.declared.Joined.{Joined}
use Rattle.elements.specs.declared.Joined.TheVariants as J

-- The words that a loop has written, or the first trap.
abbrev pub results : Result Unit Trap → List ℕ → OrTrap (List ℕ)
results (Ok done) words = gives words
results (Err t) words = trap t.class t.number

-- The shape that an answer names, of the operands' shapes.
abbrev pub shape_named : Result Side Trap → List ℕ → List ℕ → OrTrap (List ℕ)
shape_named (Ok S.First) a b = gives a
shape_named (Ok S.Second) a b = gives b
shape_named (Err t) a b = trap t.class t.number

-- The lengths that an answer names.
abbrev pub join_named : Result Joined Trap → OrTrap (List ℕ)
join_named (Ok (J.Vector n)) = gives (n ∷ [])
join_named (Ok (J.Matrix n w)) = gives (n ∷ w ∷ [])
join_named (Err t) = trap t.class t.number

-- An operator's results on every element, and on every pair of elements.
abbrev pub each_by : Monadic → List ℕ → OrTrap (List ℕ)
each_by operator a = each (λ w. answered (monadic_of operator w)) a

abbrev pub pairwise_by : Dyadic → List ℕ → List ℕ → OrTrap (List ℕ)
pairwise_by operator a b = pairwise (λ x y. answered (dyadic_of operator x y)) a b

-- The lengths that a ravel's numbers are: the characters among them are judged before the other faults.
abbrev pub lengths_of : List ℕ → OrTrap (List ℕ)
lengths_of ravel = stop_if (any is_character ravel) 7 0 (shorts ravel)

-- Two operands have as many elements, unless one of them has a single element.
pub record Paired (a b : List ℕ) : Type 0 where
  pub fits : (length a ≡ 1 → ⊥) → (length b ≡ 1 → ⊥) → length a ≡ length b
