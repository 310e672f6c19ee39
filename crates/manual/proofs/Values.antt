-- The traps of the operators on values, and of subscripts: those of an operator on pairs are of any list that has them and those
-- of each pair, and all are in the table.
use Prim.Native.Nat.{ℕ, ◌^◌}
use mathlib.Core.Path.{refl}
use mathlib.Core.Bool.{true, false, not, ◌&&◌, ◌||◌}
use mathlib.Core.List.{List, [], ◌∷◌, map}
use lib.Dec.{ltb, leb, eqb}
use lib.ListN.{length}
use Rattle.descriptor.specs.Fields.{is_character}
use Rattle.segment.specs.Blocks.{product}
use Rattle.segment.specs.Cells.{Cell, undefined, indirect, value as holds, invalid}
use Rattle.operator.specs.declared.Monadic.{Monadic}
use Rattle.operator.specs.declared.Dyadic.{Dyadic}
use Rattle.scalar.specs.declared.Whole.{Whole}
use Rattle.scalar.specs.declared.Whole.TheVariants as W
use Rattle.scalar.specs.declared.Truth.{Truth}
use Rattle.scalar.specs.declared.Truth.TheVariants as T
use Rattle.scalar.specs.Reading.{whole_of, truth_of}
use Rattle.scalar.specs.Operators.{monadic_of, dyadic_of}
use Rattle.manual.specs.OrTrap.{OrTrap}
use Rattle.manual.specs.Values.{Value, rank, size, is_single, same, any, answered, collect, each, monadic, conform, zip, spread, extent, pairwise, dyadic, short_of, shorts, truth, single, truth_of_value, joined_shape, catenate, index_generator, reshape, is_fraction, in_ranges, ravel_place}
use Rattle.manual.specs.Scalars.{value_of, scalar_words, subscripted}
use Rattle.manual.specs.Traps.{listed}
use Rattle.manual.proofs.Lists.{Within, stops-within, goes-within, chosen-within, InTheTable, Listed, stops-listed, goes-listed}
use Rattle.manual.proofs.Joins.{joined-cases}
use Rattle.manual.proofs.Operators.{monadic-answers, dyadic-answers}

-- ---- operands, and operators on pairs of elements, by the traps of each pair

module _ (T : ℕ → ℕ → Type 0) where
  pub value-within : T 3 5 → (c : Cell) → Within T (value_of c)
  value-within t undefined = t
  value-within t (indirect i) = t
  value-within t (holds shape ravel) = tt
  value-within t invalid = t

  zip-within : (f : ℕ → ℕ → OrTrap ℕ) → ((x y : ℕ) → Within T (f x y)) → (a b : List ℕ) → Within T (collect (zip f a b))
  zip-within f h [] b = tt
  zip-within f h (x ∷ a) [] = tt
  zip-within f h (x ∷ a) (y ∷ b) = goes-within T (f x y) _ (h x y) (λ v. goes-within T (collect (zip f a b)) _ (zip-within f h a b) (λ vs. tt))

  pairwise-within : (f : ℕ → ℕ → OrTrap ℕ) → ((x y : ℕ) → Within T (f x y)) → (a b : List ℕ) → Within T (pairwise f a b)
  unfolding pairwise
  pairwise-within f h a b = zip-within f h (spread (extent a b) a) (spread (extent a b) b)

  module _ (rank-error : T 5 0) (length-error : T 6 0) where
    conform-within : (a : List ℕ) (n : ℕ) (b : List ℕ) (m : ℕ) → Within T (conform a n b m)
    unfolding conform
    conform-within a n b m =
        chosen-within T (eqb n 1) _ _ tt
        (chosen-within T (eqb m 1) _ _ tt (stops-within T (not (eqb (length a) (length b))) _ _ _ rank-error (stops-within T (not (same a b)) _ _ _ length-error tt)))

    pub dyadic-within : (op : Dyadic) → ((x y : ℕ) → Within T (answered (dyadic_of op x y))) → (a b : Value) → Within T (dyadic op a b)
    unfolding dyadic
    dyadic-within op h a b =
        goes-within T (conform a.shape (size a) b.shape (size b)) _ (conform-within a.shape (size a) b.shape (size b)) (λ shape.
        goes-within T (pairwise (λ x y. answered (dyadic_of op x y)) a.ravel b.ravel) _
        (pairwise-within (λ x y. answered (dyadic_of op x y)) h a.ravel b.ravel) (λ ravel. tt))

-- ---- the table

pub value-listed : (c : Cell) → Listed (value_of c)
unfolding listed
value-listed = value-within InTheTable refl

pub dyadic-listed : (op : Dyadic) (a b : Value) → Listed (dyadic op a b)
unfolding listed
dyadic-listed op = dyadic-within InTheTable refl refl op (dyadic-answers op)

each-listed : (f : ℕ → OrTrap ℕ) → ((w : ℕ) → Listed (f w)) → (ravel : List ℕ) → Listed (each f ravel)
unfolding each
each-listed f h [] = tt
each-listed f h (w ∷ ws) = goes-listed (f w) _ (h w) (λ v. goes-listed (collect (map f ws)) _ (each-listed f h ws) (λ vs. tt))

pub monadic-listed : (op : Monadic) (v : Value) → Listed (monadic op v)
unfolding monadic
monadic-listed op v =
    goes-listed (each (λ w. answered (monadic_of op w)) v.ravel) _ (each-listed (λ w. answered (monadic_of op w)) (monadic-answers op) v.ravel) (λ ravel. tt)

-- ---- readings of a number

short-listed : (n : Whole) → Listed (short_of n)
unfolding listed
short-listed (W.Number true n) = refl
short-listed (W.Number false n) = stops-listed (leb (2 ^ 16) n) _ _ _ refl tt
short-listed W.Fraction = refl
short-listed W.Character = refl

single-listed : (v : Value) → Listed (single v)
unfolding listed
single-listed v = stops-listed (not (is_single v.ravel)) _ _ _ refl tt

pub truth-listed : (v : Value) → Listed (truth_of_value v)
unfolding listed
truth-listed v = goes-listed (single v) _ (single-listed v) (λ w. read (truth_of w))
  where
    read : (t : Truth) → Listed (truth t)
    read (T.Value b) = tt
    read T.Other = refl
    read T.Character = refl

-- ---- CATENATE, INDEXGEN, RESHAPE

pub catenate-listed : (a b : Value) → Listed (catenate a b)
unfolding catenate listed
catenate-listed a b =
    goes-listed (joined_shape a.shape b.shape) _ (joined-cases (λ shape. Unit {0}) InTheTable refl a.shape b.shape refl (λ few. tt) (λ p q w few. tt)) (λ shape. tt)

pub generator-listed : (origin : ℕ) (v : Value) → Listed (index_generator origin v)
unfolding index_generator
generator-listed origin v =
    goes-listed (single v) _ (single-listed v) (λ w. goes-listed (short_of (whole_of w)) _ (short-listed (whole_of w)) (λ n. tt))

pub reshape-listed : (a b : Value) → Listed (reshape a b)
unfolding reshape listed
reshape-listed a b =
    stops-listed (ltb 1 (rank a) || ltb 15 (size a)) _ _ _ refl
    (stops-listed (any is_character a.ravel) _ _ _ refl
    (goes-listed (shorts a.ravel) _ (each-listed (λ w. short_of (whole_of w)) (λ w. short-listed (whole_of w)) a.ravel) (λ lengths.
    stops-listed (leb (2 ^ 16) (product lengths)) _ _ _ refl (stops-listed (eqb (size b) 0 && not (eqb (product lengths) 0)) _ _ _ refl tt))))

-- ---- subscripts

place-listed : (origin : ℕ) (subscripts lengths : List ℕ) → Listed (ravel_place origin subscripts lengths)
unfolding ravel_place listed
place-listed origin subscripts lengths =
    stops-listed (any is_character subscripts) _ _ _ refl
    (stops-listed (any (λ w. is_fraction (whole_of w)) subscripts) _ _ _ refl
    (stops-listed (not (in_ranges origin subscripts lengths)) _ _ _ refl tt))

pub subscripted-listed : (origin rank : ℕ) (lengths : List ℕ) (subscripts : List Cell) → Listed (subscripted origin rank lengths subscripts)
unfolding listed
subscripted-listed origin rank lengths subscripts =
    stops-listed (not (eqb rank (length lengths))) _ _ _ refl (place-listed origin (scalar_words subscripts) lengths)
