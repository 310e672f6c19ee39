-- Words read by hand, tried on the definitions. Assumes nothing.
use Rattle.std.specs.Prelude.{◌≡◌, refl, true, false}
use Rattle.descriptor.specs.declared.Scalar.TheVariants.{Float, Integer, Character}
use Rattle.descriptor.specs.declared.Target.TheVariants.{Local, Global}
use Rattle.descriptor.specs.declared.Kind.TheVariants as K
use Rattle.descriptor.specs.Kinds.{segment, stack, kind_of, integer_kind, character_kind, array_kind, indirect_kind, undefined_kind, unsigned_kind}

pub record Examples : Type 0 where
  -- 1 as a float: exponent 128, fraction 0
  pub one : kind_of 0x60000000 ≡ K.Scalar (Float false 128 0)
  pub lowest : kind_of 0xC0000000 ≡ K.Scalar (Float true 0 0)
  pub five : kind_of 0x00000005 ≡ K.Scalar (Integer false 5)
  pub minus_five : kind_of 0x80000005 ≡ K.Scalar (Integer true 5)
  pub greatest : kind_of 0x007FFFFF ≡ K.Scalar (Integer false 8388607)
  pub too_great : kind_of 0x00800000 ≡ K.Invalid
  pub minus_zero : kind_of 0x80000000 ≡ K.Invalid
  pub letter : kind_of 0x01000041 ≡ K.Scalar (Character 65)
  pub stray_bit : kind_of 0x01000100 ≡ K.Invalid
  pub signed_letter : kind_of 0x81000041 ≡ K.Invalid
  pub vector : kind_of 0x02000019 ≡ K.Array (segment 25)
  pub local : kind_of 0x03000003 ≡ K.Indirect (Local (stack 3))
  pub global : kind_of 0x03010008 ≡ K.Indirect (Global (segment 8))
  pub undefined : kind_of 0x04000000 ≡ K.Undefined
  pub almost_undefined : kind_of 0x04000001 ≡ K.Invalid
  pub type_five : kind_of 0x05000000 ≡ K.Invalid

pub examples : Examples
unfolding kind_of integer_kind character_kind array_kind indirect_kind undefined_kind unsigned_kind
examples = record {
  one = refl;
  lowest = refl;
  five = refl;
  minus_five = refl;
  greatest = refl;
  too_great = refl;
  minus_zero = refl;
  letter = refl;
  stray_bit = refl;
  signed_letter = refl;
  vector = refl;
  local = refl;
  global = refl;
  undefined = refl;
  almost_undefined = refl;
  type_five = refl;
}
