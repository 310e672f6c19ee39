-- An operand by its word: a scalar, the array of a block, or no value. proofs/ValuesSeen has the laws that this is the manual's
-- reading of the cell. Assumes nothing.
use Rattle.std.specs.Prelude.{ℕ, ◌+◌, ◌-◌, ◌≡◌, Bool, true, false, cond, List, [], ◌∷◌, Option, Some, None}
use Rattle.descriptor.specs.declared.Kind.{Kind}
use Rattle.descriptor.specs.declared.Kind.TheVariants as K
use Rattle.descriptor.specs.Kinds.{segment, kind_of}
use Rattle.segment.specs.State.{sbase, ltop}
use Rattle.segment.specs.Blocks.{rank_at, product, shape_at, elements_at}
use Rattle.segment.specs.declared.blocks.Part.{Part}
use Rattle.effects.specs.Sources.{operand_at}
use Rattle.effects.specs.Seen.{whole}
use Rattle.manual.specs.OrTrap.{OrTrap, gives, trap}
use Rattle.manual.specs.Values as values
use Rattle.operands.specs.declared.reading.Value.{Value}
use Rattle.operands.specs.declared.reading.Value.TheVariants.{Scalar, Array}

abbrev pub operand_of_kind : List ℕ → ℕ → Kind → Option Value
operand_of_kind s w (K.Scalar k) = Some (Scalar w)
operand_of_kind s w (K.Array a) = cond (whole s a.0) (Some (Array a)) None
operand_of_kind s w (K.Indirect t) = None
operand_of_kind s w K.Undefined = None
operand_of_kind s w K.Invalid = None

unfoldable pub operand_of : List ℕ → ℕ → Option Value
operand_of s w = operand_of_kind s w (kind_of w)

abbrev pub is_undefined_kind : Kind → Bool
is_undefined_kind (K.Scalar k) = false
is_undefined_kind (K.Array a) = false
is_undefined_kind (K.Indirect t) = false
is_undefined_kind K.Undefined = true
is_undefined_kind K.Invalid = false

unfoldable pub is_undefined_word : ℕ → Bool
is_undefined_word w = is_undefined_kind (kind_of w)

-- The value that it stands for; (3,5) where it is none.
abbrev pub held : List ℕ → Value → values.Value
held s (Scalar w) = values.value [] (w ∷ [])
held s (Array a) = values.value (shape_at s a.0) (elements_at s a.0)

-- It is the value of the i-th operand from the top, from 0.
abbrev pub Stands : List ℕ → ℕ → Value → Type 0
Stands s i v = operand_of s (operand_at s i) ≡ Some v

-- Where its elements stand then: a scalar is its own cell, an array's lie in its block behind the lengths.
abbrev pub standing : List ℕ → ℕ → Value → Part
standing s i (Scalar w) = record { start = segment (sbase s + ltop s - i); count = 1 }
standing s i (Array a) = record { start = segment (a.0 + 2 + rank_at s a.0); count = product (shape_at s a.0) }

abbrev pub value_seen : List ℕ → Option Value → OrTrap values.Value
value_seen s (Some v) = gives (held s v)
value_seen s None = trap 3 5
