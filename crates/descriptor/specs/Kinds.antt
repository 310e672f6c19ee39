-- The kind of a word: document 01's "Descriptors", with decisions 1 and 2 of docs/DECISIONS.md.
-- A reader must believe: these cases are the document's. Assumes nothing.
use Rattle.std.specs.Prelude.{ℕ, ◌-◌, ◌^◌, Bool, true, false, cond, ltb, eqb}
use Rattle.descriptor.specs.declared.address.SegmentAddress.{SegmentAddress}
use Rattle.descriptor.specs.declared.address.StackAddress.{StackAddress}
use Rattle.descriptor.specs.declared.Scalar.TheVariants.{Float, Integer, Character}
use Rattle.descriptor.specs.declared.Target.TheVariants.{Local, Global}
use Rattle.descriptor.specs.declared.Kind.{Kind}
use Rattle.descriptor.specs.declared.Kind.TheVariants as K
use Rattle.descriptor.specs.Fields.{integer_limit, type_integer, type_character, type_array, type_indirect, type_undefined, sign, is_float, exponent, fraction, type_number, rest}

abbrev pub bit : Bool → ℕ
bit true = 1
bit false = 0

abbrev pub segment : ℕ → SegmentAddress
segment a = record { 0 = a }

abbrev pub stack : ℕ → StackAddress
stack a = record { 0 = a }

-- Type 0: magnitude bits 22–0, so bit 23 is clear, and no minus zero.
unfoldable pub integer_kind : ℕ → Kind
integer_kind w =
    cond (ltb integer_limit (rest w)) K.Invalid
    (cond (eqb w (2 ^ 31)) K.Invalid (K.Scalar (Integer (eqb (sign w) 1) (rest w))))

-- Type 1: a character in bits 7–0.
unfoldable pub character_kind : ℕ → Kind
character_kind below = cond (ltb below (2 ^ 8)) (K.Scalar (Character below)) K.Invalid

-- Type 2: an array, its block's address in bits 15–0.
unfoldable pub array_kind : ℕ → Kind
array_kind below = cond (ltb below (2 ^ 16)) (K.Array (segment below)) K.Invalid

-- Type 3: an indirect word, bit 16 set for a global, the address in bits 15–0.
unfoldable pub indirect_kind : ℕ → Kind
indirect_kind below =
    cond (ltb below (2 ^ 16)) (K.Indirect (Local (stack below)))
    (cond (ltb below (2 ^ 17)) (K.Indirect (Global (segment (below - 2 ^ 16)))) K.Invalid)

-- Type 4: undefined, with nothing below.
unfoldable pub undefined_kind : ℕ → Kind
undefined_kind below = cond (eqb below 0) K.Undefined K.Invalid

-- The types whose words have bit 31 clear.
unfoldable pub unsigned_kind : ℕ → ℕ → Kind
unsigned_kind number below =
    cond (eqb number type_character) (character_kind below)
    (cond (eqb number type_array) (array_kind below)
    (cond (eqb number type_indirect) (indirect_kind below)
    (cond (eqb number type_undefined) (undefined_kind below) K.Invalid)))

unfoldable pub kind_of : ℕ → Kind
kind_of w =
    cond (is_float w) (K.Scalar (Float (eqb (sign w) 1) (exponent w) (fraction w)))
    (cond (eqb (type_number w) type_integer) (integer_kind w)
    (cond (eqb (sign w) 0) (unsigned_kind (type_number w) (rest w)) K.Invalid))

-- Scalars are floats, integers and characters.
abbrev pub scalar_kind : Kind → Bool
scalar_kind (K.Scalar s) = true
scalar_kind (K.Array a) = false
scalar_kind (K.Indirect t) = false
scalar_kind K.Undefined = false
scalar_kind K.Invalid = false

unfoldable pub is_scalar : ℕ → Bool
is_scalar w = scalar_kind (kind_of w)
