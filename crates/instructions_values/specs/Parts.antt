-- What the contracts of the inner functions say. Nothing here need be believed: no public contract cites it. Assumes nothing.
use Rattle.std.specs.Prelude.{ℕ, ◌+◌, ◌^◌, ◌≤◌, ◌≡◌, Bool, true, not, ◌&&◌, List, [], ◌∷◌, ltb, leb, eqb, get_or, length, Result, Ok, Err}
use Rattle.trap.specs.declared.Trap.{Trap}
use Rattle.descriptor.specs.declared.address.SegmentAddress.{SegmentAddress}
use Rattle.descriptor.specs.Kinds.{bit}
use Rattle.operator.specs.declared.Dyadic.{Dyadic}
use Rattle.segment.specs.Blocks.{product, shape_at, elements_at}
use Rattle.segment.specs.State.{flags, iorg}
use Rattle.manual.specs.OrTrap.{OrTrap, gives, trap, and_then, stop_if}
use Rattle.manual.specs.Effects.{word, made, replaces, jumps, sets_origin, Plan}
use Rattle.manual.specs.Values as values
use Rattle.manual.specs.Seen.{Seen}
use Rattle.manual.specs.Scalars.{value_of, replace_by}
use Rattle.effects.specs.declared.Outcome.{Outcome}
use Rattle.effects.specs.Carried.{did, carry}
use Rattle.effects.specs.Seen.{whole, temporaries, seen}
use Rattle.elements.specs.Answers.{Paired, pairwise_by}
use Rattle.operands.specs.declared.reading.Value.{Value}
use Rattle.operands.specs.declared.reading.Value.TheVariants.{Array}
use Rattle.operands.specs.Operands.{held, Stands}

-- ---- what the words hold

-- The array in a block, which is whole.
abbrev pub WholeAt : List ℕ → SegmentAddress → Type 0
WholeAt s block = whole s block.0 ≡ true

abbrev pub array_at : List ℕ → SegmentAddress → values.Value
array_at s block = held s (Array block)

-- A value whose parts can be read off the segment: a scalar always, an array where its block is whole.
pub record Readable (s : List ℕ) (v : Value) : Type 0 where
  pub array : (block : SegmentAddress) → v ≡ Array block → whole s block.0 ≡ true

-- The values of both of two operands.
pub record BothStand (s : List ℕ) (a b : Value) : Type 0 where
  pub first : Stands s 0 a
  pub second : Stands s 1 b

abbrev pub origin_of : List ℕ → ℕ
origin_of s = iorg (flags s)

-- ---- the operands

-- A plan that goes on from the value of the first of n operands, and one from the values of both of two.
abbrev pub from_first : Seen → ℕ → (values.Value → Plan) → Plan
from_first sees n next = stop_if (ltb sees.count n) 3 4 (and_then (value_of (sees.operand 0)) next)

abbrev pub from_both : Seen → (values.Value → values.Value → Plan) → Plan
from_both sees next = from_first sees 2 (λ a. and_then (value_of (sees.operand 1)) (next a))

-- What the code finds: values that can be read, from which every such plan goes on; or the trap that every one is.
pub record First (s : List ℕ) (n : ℕ) (v : Value) : Type 0 where
  pub all : n ≤ temporaries s
  pub stands : Stands s 0 v
  pub readable : Readable s v
  pub goes : (next : values.Value → Plan) → from_first (seen s) n next ≡ next (held s v)

abbrev pub FirstFound : List ℕ → ℕ → Result Value Trap → Type 0
FirstFound s n (Ok v) = First s n v
FirstFound s n (Err t) = (next : values.Value → Plan) → from_first (seen s) n next ≡ trap t.class t.number

pub record Both (s : List ℕ) (a b : Value) : Type 0 where
  pub stand : BothStand s a b
  pub readable : Readable s a × Readable s b
  pub goes : (next : values.Value → values.Value → Plan) → from_both (seen s) next ≡ next (held s a) (held s b)

abbrev pub BothFound : List ℕ → Result (Value × Value) Trap → Type 0
BothFound s (Ok (a, b)) = Both s a b
BothFound s (Err t) = (next : values.Value → values.Value → Plan) → from_both (seen s) next ≡ trap t.class t.number

-- ---- what the words come to

-- From the words `s`, outcome and words afterwards are those of a plan, which is said of these words.
abbrev pub Carries : List ℕ → Result Outcome Trap → List ℕ → (List ℕ → Plan) → Type 0
Carries s outcome after plan = did outcome after ≡ carry s (plan s)

-- The plan is that a result takes the place of n operands.
abbrev pub ReplacesBy : List ℕ → Result Outcome Trap → List ℕ → ℕ → ℕ → (List ℕ → OrTrap values.Value) → Type 0
ReplacesBy s outcome after next n result = Carries s outcome after (λ words. replace_by next n (result words))

-- It is a scalar, or a new array of a shape; or the trap of its elements.
abbrev pub scalar_of : ℕ → ℕ → OrTrap ℕ → Plan
scalar_of next n result = and_then result (λ w. gives (replaces n (word w) ∷ jumps next ∷ []))

abbrev pub made_of : ℕ → ℕ → List ℕ → OrTrap (List ℕ) → Plan
made_of next n shape result = and_then result (λ words. gives (replaces n (made shape words) ∷ jumps next ∷ []))

-- ---- GENSCALAR and SETORIGIN

-- The shape of the array that an answer names.
abbrev pub shape_in : List ℕ → Result SegmentAddress Trap → OrTrap (List ℕ)
shape_in s (Ok like) = gives (shape_at s like.0)
shape_in s (Err t) = trap t.class t.number

-- Two values whose elements pair, and an array that has as many as there are results.
abbrev pub Pairable : List ℕ → Value → Value → SegmentAddress → Type 0
Pairable s a b like =
    Paired (held s a).ravel (held s b).ravel
    × (length (elements_at s like.0) ≡ values.extent (held s a).ravel (held s b).ravel)

-- The results of their pairs, in the shape of the array.
abbrev pub pairs_made : ℕ → Dyadic → Value → Value → SegmentAddress → List ℕ → Plan
pairs_made next op a b like s = made_of next 2 (shape_at s like.0) (pairwise_by op (held s a).ravel (held s b).ravel)

-- The origin is set, and as it was it takes the operand's place.
abbrev pub origin_set : ℕ → Bool → List ℕ → Plan
origin_set next origin s = gives (sets_origin (bit origin) ∷ replaces 1 (word (origin_of s)) ∷ jumps next ∷ [])

-- ---- RESHAPE and INDEX

-- As many elements of a value as lengths ask for, round and round.
abbrev pub filled : List ℕ → ℕ → values.Value → OrTrap values.Value
filled lengths n b = gives (values.value lengths (values.cycle n b.ravel))

-- RESHAPE, once its lengths are read.
unfoldable pub shaped : List ℕ → values.Value → OrTrap values.Value
shaped lengths b =
    stop_if (leb (2 ^ 16) (product lengths)) 8 5
    (stop_if (eqb (values.size b) 0 && not (eqb (product lengths) 0)) 6 0
    (filled lengths (product lengths) b))

-- INDEX, once its subscripts are taken.
unfoldable pub indexed : ℕ → ℕ → List ℕ → values.Value → Plan
indexed origin next subscripts a =
    and_then (stop_if (not (eqb (length subscripts) (length a.shape))) 9 1 (values.ravel_place origin subscripts a.shape)) (λ k.
    gives (replaces (length subscripts + 1) (word (get_or a.ravel k 0)) ∷ jumps next ∷ []))
