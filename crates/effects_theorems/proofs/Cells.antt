-- What the words that no array has are seen as.
use Prim.Native.Nat.{ℕ, ◌/◌, ◌^◌}
use mathlib.Core.Path.{◌≡◌, refl}
use mathlib.Core.Bool.{true, false}
use mathlib.Core.List.{List, [], ◌∷◌}
use native.Mathlib.Omega.{arith}
use borrow.Author.Tests.{ne_eqb}
use Rattle.descriptor.specs.declared.Target.{Target}
use Rattle.descriptor.specs.declared.Target.TheVariants.{Local, Global}
use Rattle.descriptor.specs.declared.Kind.{Kind}
use Rattle.descriptor.specs.declared.Kind.TheVariants as K
use Rattle.descriptor.specs.Fields.{is_array}
use Rattle.descriptor.specs.Kinds.{kind_of, scalar_kind, is_scalar}
use Rattle.descriptor.specs.Inverse.{target_word, TargetFits}
use Rattle.descriptor.proofs.Inverse.{inverse}
use Rattle.segment.specs.Cells.{indirect, value, cell, cell_of_kind}
use Rattle.effects.specs.Sources.{reference_word}

-- a scalar's word
kind-scalar : (s : List ℕ) (w : ℕ) (k : Kind) → scalar_kind k ≡ true → cell_of_kind s w k ≡ value [] (w ∷ [])
kind-scalar s w (K.Scalar k) h = refl
kind-scalar s w (K.Array a) h = cc
kind-scalar s w (K.Indirect t) h = cc
kind-scalar s w K.Undefined h = cc
kind-scalar s w K.Invalid h = cc

pub scalar-cell : (s : List ℕ) (w : ℕ) → is_scalar w ≡ true → cell s w ≡ value [] (w ∷ [])
unfolding cell is_scalar
scalar-cell s w h = kind-scalar s w (kind_of w) h

-- an indirect word
reference-word : (t : Target) → TargetFits t → reference_word t ≡ target_word t
reference-word (Local a) h = omega arith
reference-word (Global g) h = omega arith

pub reference-array : (t : Target) → TargetFits t → is_array (reference_word t) ≡ false
reference-array (Local a) h = ne_eqb (reference_word (Local a) / 2 ^ 16) 0x200 (omega arith)
reference-array (Global g) h = ne_eqb (reference_word (Global g) / 2 ^ 16) 0x200 (omega arith)

pub reference-cell : (s : List ℕ) (t : Target) → TargetFits t → cell s (reference_word t) ≡ indirect t
unfolding cell
reference-cell s t h = rw (reference-word t h, inverse.read_back (K.Indirect t) h)
