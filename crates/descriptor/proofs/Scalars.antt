-- Which words are scalars, told by ranges of the word.
use Prim.Native.Nat.{ℕ, ◌/◌, ◌%◌, ◌^◌, ◌≤◌, ◌<◌}
use mathlib.Core.Path.{◌≡◌, refl, sym, ◌∙◌}
use mathlib.Core.Bool.{Bool, true, false, cond, not}
use native.Mathlib.Omega.{arith}
use lib.Dec.{ltb, eqb}
use borrow.Author.Tests.{ltb-true, ltb-false, eqb-true, eqb-false, lt-ltb, le-ltb, eq-eqb, ne_eqb}
use Rattle.descriptor.specs.declared.Scalar.{Scalar}
use Rattle.descriptor.specs.declared.Kind.{Kind}
use Rattle.descriptor.specs.declared.Kind.TheVariants as K
use Rattle.descriptor.specs.Fields.{integer_limit, sign, type_number, rest}
use Rattle.descriptor.specs.Kinds.{kind_of, integer_kind, character_kind, array_kind, indirect_kind, undefined_kind, unsigned_kind, scalar_kind, is_scalar}

unless : (t : Bool) (s : Scalar) → scalar_kind (cond t K.Invalid (K.Scalar s)) ≡ not t
unless true s = refl
unless false s = refl

neither : (t : Bool) (a b : Kind) → scalar_kind a ≡ false → scalar_kind b ≡ false → scalar_kind (cond t a b) ≡ false
neither true a b p q = p
neither false a b p q = q

-- types 2, 3 and 4 are no scalars
no-scalar : (number below : ℕ) → eqb number 1 ≡ false → scalar_kind (unsigned_kind number below) ≡ false
unfolding unsigned_kind array_kind indirect_kind undefined_kind
no-scalar number below e =
    simp e
    (neither (eqb number 2) _ _ (neither (ltb below (2 ^ 16)) _ _ refl refl)
    (neither (eqb number 3) _ _ (neither (ltb below (2 ^ 16)) _ _ refl (neither (ltb below (2 ^ 17)) _ _ refl refl))
    (neither (eqb number 4) _ _ (neither (eqb below 0) _ _ refl refl) refl)))

-- bits 30–23 clear: an integer, unless it is minus zero
pub small-scalar : (w : ℕ) → w < 2 ^ 32 → w % 2 ^ 31 ≤ integer_limit → is_scalar w ≡ not (eqb w (2 ^ 31))
unfolding is_scalar kind_of integer_kind
small-scalar w fits small =
    simp (ne_eqb (w / 2 ^ 30 % 2) 1 (omega arith), eq-eqb (type_number w) 0 (omega arith), le-ltb integer_limit (rest w) (omega arith))
    (unless (eqb w (2 ^ 31)) _)

-- bits that are clear add nothing
clear-float : (w : ℕ) → w / 2 ^ 30 % 2 ≡ 0 → w % 2 ^ 31 ≡ w % 2 ^ 30
clear-float w z = omega arith

clear-type : (w : ℕ) → type_number w ≡ 0 → w % 2 ^ 30 ≡ rest w
clear-type w z = omega arith

-- not a float and not so small: a character, or no scalar
module _ (w : ℕ) (fits : w < 2 ^ 32) (plain : (w / 2 ^ 30 % 2 ≡ 1) → ⊥) (large : integer_limit < w % 2 ^ 31) where
  character : (t : Bool) → ltb (rest w) (2 ^ 8) ≡ t → type_number w ≡ 1 → sign w ≡ 0 → scalar_kind (character_kind (rest w)) ≡ eqb (w / 2 ^ 8) (2 ^ 16)
  unfolding character_kind
  character true e k z = simp (e, eq-eqb (w / 2 ^ 8) (2 ^ 16) (omega (arith, ltb-true (rest w) (2 ^ 8) e)))
  character false e k z = simp (e, ne_eqb (w / 2 ^ 8) (2 ^ 16) (λ q. omega (arith, q, ltb-false (rest w) (2 ^ 8) e)))

  unsigned : (t : Bool) → eqb (type_number w) 1 ≡ t → sign w ≡ 0 → scalar_kind (unsigned_kind (type_number w) (rest w)) ≡ eqb (w / 2 ^ 8) (2 ^ 16)
  unfolding unsigned_kind
  unsigned true e z = simp e (character (ltb (rest w) (2 ^ 8)) refl (eqb-true (type_number w) 1 e) z)
  unsigned false e z =
      no-scalar (type_number w) (rest w) e
      ∙ sym (ne_eqb (w / 2 ^ 8) (2 ^ 16) (λ q. omega (arith, q, eqb-false (type_number w) 1 e)))

  signed : (t : Bool) → eqb (sign w) 0 ≡ t → scalar_kind (cond (eqb (sign w) 0) (unsigned_kind (type_number w) (rest w)) K.Invalid) ≡ eqb (w / 2 ^ 8) (2 ^ 16)
  signed true e = simp e (unsigned (eqb (type_number w) 1) refl (eqb-true (sign w) 0 e))
  signed false e = simp (e, ne_eqb (w / 2 ^ 8) (2 ^ 16) (λ q. omega (arith, q, eqb-false (sign w) 0 e)))

  typed : (t : Bool) → eqb (type_number w) 0 ≡ t → is_scalar w ≡ eqb (w / 2 ^ 8) (2 ^ 16)
  unfolding is_scalar kind_of integer_kind
  typed true e =
      let z : type_number w ≡ 0 = eqb-true (type_number w) 0 e in
      let same : w % 2 ^ 31 ≡ rest w = clear-float w (omega (arith, plain)) ∙ clear-type w z in
      simp (ne_eqb (w / 2 ^ 30 % 2) 1 plain, e, lt-ltb integer_limit (rest w) (omega arith), ne_eqb (w / 2 ^ 8) (2 ^ 16) (λ q. omega (arith, q)))
  typed false e = simp (ne_eqb (w / 2 ^ 30 % 2) 1 plain, e) (signed (eqb (sign w) 0) refl)

  pub large-scalar : is_scalar w ≡ eqb (w / 2 ^ 8) (2 ^ 16)
  large-scalar = typed (eqb (type_number w) 0) refl
