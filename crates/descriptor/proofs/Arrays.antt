-- Which words are read as an array's.
use Prim.Native.Nat.{ℕ, ◌*◌, ◌/◌, ◌%◌, ◌^◌, ◌<◌}
use mathlib.Core.Path.{◌≡◌, sym, ◌∙◌, ap}
use mathlib.Core.Bool.{true, false, true≢false}
use native.Mathlib.Omega.{arith}
use lib.Dec.{ltb, eqb}
use borrow.Author.Tests.{ltb-true, eqb-true, eqb-false, eq-eqb}
use Rattle.descriptor.specs.declared.Kind.{Kind}
use Rattle.descriptor.specs.declared.Kind.TheVariants as K
use Rattle.descriptor.specs.Fields.{type_array, integer_limit, sign, is_float, type_number, rest, is_array, address, array_word}
use Rattle.descriptor.specs.Kinds.{segment, kind_of, scalar_kind, is_scalar, integer_kind, character_kind, array_kind, indirect_kind, undefined_kind, unsigned_kind}
use Rattle.descriptor.proofs.Truth.{fails}
use Rattle.descriptor.proofs.Inverse.{inverse, pick}

pub array_of : (w : ℕ) → is_array w ≡ true → w ≡ array_word (address w)
array_of w e = omega (arith, eqb-true (w / 2 ^ 16) (type_array * 2 ^ 8) e)

pub array_kind_lem : (x : ℕ) → x < 2 ^ 16 → kind_of (array_word x) ≡ K.Array (segment x)
array_kind_lem x l = inverse.read_back (K.Array (segment x)) l

array-fields : (w : ℕ) → w / 2 ^ 31 ≡ 0 → ((w / 2 ^ 30 % 2 ≡ 1) → ⊥) → type_number w ≡ 2 → rest w < 2 ^ 16 → w / 2 ^ 16 ≡ (type_array * 2 ^ 8)
array-fields w s plain k l =
    let short : w < 2 ^ 30 = omega (arith, s, plain) in
    let typed : w / 2 ^ 24 ≡ 2 = omega (arith, short, k) in
    omega (arith, typed, l)

-- an array's kind comes of an array's word only
abbrev pub IfArray : ℕ → Kind → Type 0
IfArray w (K.Scalar s) = Unit {0}
IfArray w (K.Array a) = is_array w ≡ true
IfArray w (K.Indirect t) = Unit {0}
IfArray w K.Undefined = Unit {0}
IfArray w K.Invalid = Unit {0}

pub kind-array : (w : ℕ) → IfArray w (kind_of w)
unfolding kind_of integer_kind character_kind array_kind indirect_kind undefined_kind unsigned_kind
kind-array w =
    pick (IfArray w) (is_float w) _ _ (λ e. tt) (λ plain.
    pick (IfArray w) (eqb (type_number w) 0) _ _
    (λ e. pick (IfArray w) (ltb integer_limit (rest w)) _ _ (λ e. tt) (λ e. pick (IfArray w) (eqb w (2 ^ 31)) _ _ (λ e. tt) (λ e. tt))) (λ e.
    pick (IfArray w) (eqb (sign w) 0) _ _ (λ s.
    pick (IfArray w) (eqb (type_number w) 1) _ _ (λ e. pick (IfArray w) (ltb (rest w) (2 ^ 8)) _ _ (λ e. tt) (λ e. tt)) (λ e.
    pick (IfArray w) (eqb (type_number w) 2) _ _ (λ k. pick (IfArray w) (ltb (rest w) (2 ^ 16)) _ _ (λ l. eq-eqb (w / 2 ^ 16) (type_array * 2 ^ 8) (array-fields w (eqb-true (sign w) 0 s) (eqb-false (w / 2 ^ 30 % 2) 1 plain) (eqb-true (type_number w) 2 k) (ltb-true (rest w) (2 ^ 16) l))) (λ e. tt)) (λ e.
    pick (IfArray w) (eqb (type_number w) 3) _ _ (λ e. pick (IfArray w) (ltb (rest w) (2 ^ 16)) _ _ (λ e. tt) (λ e. pick (IfArray w) (ltb (rest w) (2 ^ 17)) _ _ (λ e. tt) (λ e. tt))) (λ e.
    pick (IfArray w) (eqb (type_number w) 4) _ _ (λ e. pick (IfArray w) (eqb (rest w) 0) _ _ (λ e. tt) (λ e. tt)) (λ e. tt)))))
    (λ e. tt)))

-- and so no scalar's word is an array's
pub scalar-array : (w : ℕ) → is_scalar w ≡ true → is_array w ≡ false
unfolding is_scalar
scalar-array w h = fails (is_array w) (λ e. true≢false (sym h ∙ ap scalar_kind (ap kind_of (array_of w e) ∙ array_kind_lem (address w) (omega arith))))
