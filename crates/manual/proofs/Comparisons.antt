-- The theorem of specs/Comparisons, down the lists of traps that a scalar instruction of two operands goes through.
use Rattle.std.proofs.Common.{Ok}
use Prim.Native.Nat.{ℕ}
use mathlib.Core.Path.{◌≡◌, refl}
use mathlib.Core.Bool.{Bool, true, false, cond, ◌&&◌, ◌||◌}
use mathlib.Core.List.{List}
use lib.Dec.{ltb, eqb}
use Rattle.descriptor.specs.Fields.{is_character}
use Rattle.descriptor.specs.Kinds.{bit}
use Rattle.operator.specs.declared.Dyadic.{Dyadic}
use Rattle.operator.specs.declared.Dyadic.TheVariants as D
use Rattle.scalar.specs.Value.{character_code}
use Rattle.scalar.specs.Order.{is_below, is_equal}
use Rattle.scalar.specs.Results.{type_error}
use Rattle.scalar.specs.Operators.{less, equal, dyadic_of}
use Rattle.manual.specs.OrTrap.{OrTrap}
use Rattle.manual.specs.Values as values
use Rattle.manual.specs.Values.{answered}
use Rattle.manual.specs.Scalars.{value_of, dyadic}
use Rattle.manual.specs.Seen.{Seen}
use Rattle.manual.specs.Instructions.{plan_of}
use Rattle.manual.specs.Traps.{Line, among}
use Rattle.manual.specs.Comparisons.{equal_traps, less_traps, ComparisonTraps}
use Rattle.manual.proofs.Lists.{Within, within, stops-within, goes-within}
use Rattle.manual.proofs.Values.{value-within, dyadic-within}

-- The trap is one of the lines.
abbrev Among : List Line → ℕ → ℕ → Type 0
Among lines class number = among class number lines ≡ true

abbrev Only : List Line → {A : Type 0} → OrTrap A → Type 0
Only lines x = Within (Among lines) x

-- lines that have what any operator of two operands may give
module _ (lines : List Line) (few : Among lines 3 4) (kind : Among lines 3 5) (rank : Among lines 5 0) (lengths : Among lines 6 0) where
  plan-only : (op : Dyadic) → ((x y : ℕ) → Only lines (answered (dyadic_of op x y))) → (seen : Seen) (next : ℕ) → Only lines (dyadic seen next op)
  unfolding dyadic
  plan-only op h seen next =
      stops-within (Among lines) (ltb seen.count 2) _ _ _ few
      (goes-within (Among lines) (value_of (seen.operand 0)) _ (value-within (Among lines) kind (seen.operand 0)) (λ a.
      goes-within (Among lines) (value_of (seen.operand 1)) _ (value-within (Among lines) kind (seen.operand 1)) (λ b.
      goes-within (Among lines) (values.dyadic op a b) _ (dyadic-within (Among lines) rank lengths op h a b) (λ v. tt))))

less-only : (x y : ℕ) → Only less_traps (answered (less x y))
unfolding less
less-only x y = go (is_character x || is_character y) (bit (is_below x y))
  where
    go : (t : Bool) (w : ℕ) → Only less_traps (answered (cond t type_error (Ok w)))
    go true w = refl
    go false w = tt

equal-only : (x y : ℕ) → Only equal_traps (answered (equal x y))
unfolding equal
equal-only x y = go (is_character x) (is_character y) (bit (is_character y && eqb (character_code x) (character_code y))) (bit (is_equal x y))
  where
    go : (t u : Bool) (v w : ℕ) → Only equal_traps (answered (cond t (Ok v) (cond u (Ok 0) (Ok w))))
    go true u v w = tt
    go false true v w = tt
    go false false v w = tt

pub comparison-traps : ComparisonTraps
unfolding plan_of
comparison-traps =
    record {
      less = λ f seen next. within (Among less_traps) (dyadic seen next D.Less) (plan-only less_traps refl refl refl refl D.Less less-only seen next);
      equal = λ f seen next. within (Among equal_traps) (dyadic seen next D.Equal) (plan-only equal_traps refl refl refl refl D.Equal equal-only seen next);
    }
