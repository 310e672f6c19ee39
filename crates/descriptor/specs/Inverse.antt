-- The word of each kind, and the statement that words and kinds are inverse: what a maker makes is read back as the same kind,
-- and a word that is a descriptor is made again from its kind. Proved in proofs/Inverse.antt. Assumes nothing.
use Rattle.std.specs.Prelude.{ℕ, ◌^◌, ◌≤◌, ◌<◌, ◌≡◌, false, ◌⊎◌}
use Rattle.descriptor.specs.declared.Scalar.{Scalar}
use Rattle.descriptor.specs.declared.Scalar.TheVariants.{Float, Integer, Character}
use Rattle.descriptor.specs.declared.Target.{Target}
use Rattle.descriptor.specs.declared.Target.TheVariants.{Local, Global}
use Rattle.descriptor.specs.declared.Kind.{Kind}
use Rattle.descriptor.specs.declared.Kind.TheVariants as K
use Rattle.descriptor.specs.Fields.{integer_limit, float_word, integer_word, character_word, array_word, local_word, global_word, undefined_word}
use Rattle.descriptor.specs.Kinds.{bit, kind_of}

abbrev pub scalar_word : Scalar → ℕ
scalar_word (Float negative e f) = float_word (bit negative) e f
scalar_word (Integer negative m) = integer_word (bit negative) m
scalar_word (Character c) = character_word c

abbrev pub target_word : Target → ℕ
target_word (Local a) = local_word a.0
target_word (Global a) = global_word a.0

-- No maker makes an invalid word; minus zero stands for all of them here.
abbrev pub kind_word : Kind → ℕ
kind_word (K.Scalar s) = scalar_word s
kind_word (K.Array a) = array_word a.0
kind_word (K.Indirect t) = target_word t
kind_word K.Undefined = undefined_word
kind_word K.Invalid = 2 ^ 31

-- The parts fit their fields, and zero is not negative.
abbrev pub ScalarFits : Scalar → Type 0
ScalarFits (Float negative e f) = (e < 2 ^ 8) × (f < 2 ^ 22)
ScalarFits (Integer negative m) = (m ≤ integer_limit) × (m ≡ 0 → negative ≡ false)
ScalarFits (Character c) = c < 2 ^ 8

abbrev pub TargetFits : Target → Type 0
TargetFits (Local a) = a.0 < 2 ^ 16
TargetFits (Global a) = a.0 < 2 ^ 16

abbrev pub KindFits : Kind → Type 0
KindFits (K.Scalar s) = ScalarFits s
KindFits (K.Array a) = a.0 < 2 ^ 16
KindFits (K.Indirect t) = TargetFits t
KindFits K.Undefined = Unit {0}
KindFits K.Invalid = Unit {0}

pub record Inverse : Type 0 where
  pub read_back : (k : Kind) → KindFits k → kind_of (kind_word k) ≡ k
  pub made_again : (w : ℕ) → w < 2 ^ 32 → (kind_of w ≡ K.Invalid) ⊎ (kind_word (kind_of w) ≡ w)
