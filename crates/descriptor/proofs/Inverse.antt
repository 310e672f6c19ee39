-- Words and kinds are inverse.
use Prim.Native.Nat.{ℕ, ◌+◌, ◌-◌, ◌*◌, ◌/◌, ◌%◌, ◌^◌, ◌≤◌, ◌<◌}
use mathlib.Core.Path.{◌≡◌, refl, ◌∙◌, ap}
use mathlib.Core.Bool.{Bool, true, false, cond}
use mathlib.Core.Logic.{◌⊎◌, inl, inr}
use native.Mathlib.Omega.{arith}
use lib.Dec.{ltb, eqb}
use borrow.Author.Tests.{ltb-false, eqb-true, eqb-false, lt-ltb, le-ltb, ne_eqb}
use Rattle.descriptor.specs.declared.Scalar.{Scalar}
use Rattle.descriptor.specs.declared.Scalar.TheVariants.{Float, Integer, Character}
use Rattle.descriptor.specs.declared.Target.TheVariants.{Local, Global}
use Rattle.descriptor.specs.declared.Kind.{Kind}
use Rattle.descriptor.specs.declared.Kind.TheVariants as K
use Rattle.descriptor.specs.Fields.{integer_limit, sign, exponent, fraction, type_number, rest, float_word, integer_word, global_word}
use Rattle.descriptor.specs.Kinds.{bit, kind_of, integer_kind, character_kind, array_kind, indirect_kind, undefined_kind, unsigned_kind}
use Rattle.descriptor.specs.Inverse.{kind_word, KindFits, Inverse}

bit-small : (t : Bool) → bit t ≤ 1
bit-small true = omega arith
bit-small false = omega arith

bit-back : (t : Bool) → eqb (bit t) 1 ≡ t
bit-back true = refl
bit-back false = refl

-- ---- from the kind to the word and back

pub float-fields : (s e f : ℕ) → s ≤ 1 → e < 2 ^ 8 → f < 2 ^ 22 → (float_word s e f / 2 ^ 30 % 2 ≡ 1) × (sign (float_word s e f) ≡ s) × (exponent (float_word s e f) ≡ e) × (fraction (float_word s e f) ≡ f)
float-fields s e f hs he hf = (omega arith, omega arith, omega arith, omega arith)

float_back : (t : Bool) (e f : ℕ) → e < 2 ^ 8 → f < 2 ^ 22 → kind_of (float_word (bit t) e f) ≡ K.Scalar (Float t e f)
unfolding kind_of
float_back t e f he hf =
    let h = float-fields (bit t) e f (bit-small t) he hf in
    simp (h.0, h.1, h.2, h.3, bit-back t)

-- a word of type k with bit 31 clear
module _ (k below : ℕ) (typed : k < 2 ^ 6) (short : below < 2 ^ 24) where
  typed-fields : (((k * 2 ^ 24 + below) / 2 ^ 30 % 2 ≡ 1) → ⊥) × (type_number (k * 2 ^ 24 + below) ≡ k) × (rest (k * 2 ^ 24 + below) ≡ below) × (sign (k * 2 ^ 24 + below) ≡ 0)
  typed-fields = ((λ q. omega (arith, q)), omega arith, omega arith, omega arith)

  typed-back : (k ≡ 0 → ⊥) → kind_of (k * 2 ^ 24 + below) ≡ unsigned_kind k below
  unfolding kind_of
  typed-back positive =
      let h = typed-fields in
      simp (ne_eqb _ _ h.0, h.1, ne_eqb k 0 positive, h.3, h.2)

integer-fields : (s m : ℕ) → s ≤ 1 → m ≤ integer_limit → (m ≡ 0 → ⊥) → (((s * 2 ^ 31 + m) / 2 ^ 30 % 2 ≡ 1) → ⊥) × (type_number (s * 2 ^ 31 + m) ≡ 0) × (rest (s * 2 ^ 31 + m) ≡ m) × (sign (s * 2 ^ 31 + m) ≡ s) × ((s * 2 ^ 31 + m ≡ 2 ^ 31) → ⊥)
integer-fields s m hs small some = ((λ q. omega (arith, q)), omega arith, omega arith, omega arith, (λ q. omega (arith, q, some)))

integer-back : (t : Bool) (m : ℕ) → m ≤ integer_limit → (m ≡ 0 → t ≡ false) → (z : Bool) → eqb m 0 ≡ z → kind_of (cond z 0 (bit t * 2 ^ 31 + m)) ≡ K.Scalar (Integer t m)
unfolding kind_of integer_kind
integer-back t m small plain true e =
    let z : m ≡ 0 = eqb-true m 0 e in
    simp (z, plain z)
integer-back t m small plain false e =
    let h = integer-fields (bit t) m (bit-small t) small (eqb-false m 0 e) in
    simp (ne_eqb _ _ h.0, h.1, h.2, le-ltb integer_limit m small, ne_eqb _ _ h.4, h.3, bit-back t)

scalar-back : (s : Scalar) → KindFits (K.Scalar s) → kind_of (kind_word (K.Scalar s)) ≡ K.Scalar s
unfolding unsigned_kind character_kind
scalar-back (Float t e f) h = float_back t e f h.0 h.1
scalar-back (Integer t m) h = integer-back t m h.0 h.1 (eqb m 0) refl
scalar-back (Character c) h = typed-back 1 c (omega arith) (omega arith) (λ q. omega (arith, q)) ∙ simp (lt-ltb c (2 ^ 8) h)

read_back : (k : Kind) → KindFits k → kind_of (kind_word k) ≡ k
unfolding kind_of integer_kind unsigned_kind array_kind indirect_kind undefined_kind
read_back (K.Scalar s) h = scalar-back s h
read_back (K.Array a) h = typed-back 2 a.0 (omega arith) (omega arith) (λ q. omega (arith, q)) ∙ simp (lt-ltb a.0 (2 ^ 16) h)
read_back (K.Indirect (Local a)) h = typed-back 3 a.0 (omega arith) (omega arith) (λ q. omega (arith, q)) ∙ simp (lt-ltb a.0 (2 ^ 16) h)
read_back (K.Indirect (Global a)) h =
    let e : 2 ^ 16 + a.0 - 2 ^ 16 ≡ a.0 = omega arith in
    let d : global_word a.0 ≡ 3 * 2 ^ 24 + (2 ^ 16 + a.0) = omega arith in
    ap kind_of d
    ∙ typed-back 3 (2 ^ 16 + a.0) (omega arith) (omega arith) (λ q. omega (arith, q))
    ∙ simp (le-ltb (2 ^ 16 + a.0) (2 ^ 16) (omega arith), lt-ltb (2 ^ 16 + a.0) (2 ^ 17) (omega arith), e)
read_back K.Undefined h = refl
read_back K.Invalid h = refl

-- ---- from the word to the kind and back

-- what holds of both arms holds of the arm that is picked
pub pick : (P : Kind → Type 0) (t : Bool) (a b : Kind) → (t ≡ true → P a) → (t ≡ false → P b) → P (cond t a b)
pick P true a b p q = p refl
pick P false a b p q = q refl

-- a word is its fields
float-parts : (w : ℕ) → w / 2 ^ 30 % 2 ≡ 1 → float_word (sign w) (exponent w) (fraction w) ≡ w
float-parts w e = omega arith

typed-parts : (w : ℕ) → w < 2 ^ 32 → ((w / 2 ^ 30 % 2 ≡ 1) → ⊥) → w ≡ sign w * 2 ^ 31 + type_number w * 2 ^ 24 + rest w
typed-parts w fits plain =
    let clear : w / 2 ^ 30 % 2 ≡ 0 = omega (arith, plain) in
    omega arith

module _ (w : ℕ) (fits : w < 2 ^ 32) where
  abbrev Again : Kind → Type 0
  Again k = (k ≡ K.Invalid) ⊎ (kind_word k ≡ w)

  sign_bit : (t : Bool) → eqb (sign w) 1 ≡ t → bit t ≡ sign w
  sign_bit true e = omega (arith, eqb-true (sign w) 1 e)
  sign_bit false e = omega (arith, eqb-false (sign w) 1 e)

  float-again : eqb (w / 2 ^ 30 % 2) 1 ≡ true → Again (K.Scalar (Float (eqb (sign w) 1) (exponent w) (fraction w)))
  float-again e =
      inr (ap (λ (s : ℕ). float_word s (exponent w) (fraction w)) (sign_bit (eqb (sign w) 1) refl) ∙ float-parts w (eqb-true (w / 2 ^ 30 % 2) 1 e))

  module _ (plain : eqb (w / 2 ^ 30 % 2) 1 ≡ false) where
    parts : w ≡ sign w * 2 ^ 31 + type_number w * 2 ^ 24 + rest w
    parts = typed-parts w fits (eqb-false (w / 2 ^ 30 % 2) 1 plain)

    signed-again : type_number w ≡ 0 → ((w ≡ 2 ^ 31) → ⊥) → (t : Bool) → eqb (rest w) 0 ≡ t → cond t 0 (sign w * 2 ^ 31 + rest w) ≡ w
    signed-again k some true e = omega (arith, parts, k, some, eqb-true (rest w) 0 e)
    signed-again k some false e = omega (parts, k, arith)

    integer-again : eqb (type_number w) 0 ≡ true → Again (integer_kind w)
    unfolding integer_kind
    integer-again k =
        pick Again (ltb integer_limit (rest w)) _ _ (λ e. inl refl) (λ l.
        pick Again (eqb w (2 ^ 31)) _ _ (λ e. inl refl) (λ some.
        inr (ap (λ (s : ℕ). integer_word s (rest w)) (sign_bit (eqb (sign w) 1) refl)
        ∙ signed-again (eqb-true (type_number w) 0 k) (eqb-false w (2 ^ 31) some) (eqb (rest w) 0) refl)))

    -- type k and bit 31 clear
    typed-again : (k : ℕ) → eqb (sign w) 0 ≡ true → eqb (type_number w) k ≡ true → k * 2 ^ 24 + rest w ≡ w
    typed-again k s e = omega (arith, parts, eqb-true (sign w) 0 s, eqb-true (type_number w) k e)

    unsigned-again : eqb (sign w) 0 ≡ true → Again (unsigned_kind (type_number w) (rest w))
    unfolding unsigned_kind character_kind array_kind indirect_kind undefined_kind
    unsigned-again s =
        pick Again (eqb (type_number w) 1) _ _ (λ e. pick Again (ltb (rest w) (2 ^ 8)) _ _ (λ l. inr (typed-again 1 s e)) (λ l. inl refl)) (λ n1.
        pick Again (eqb (type_number w) 2) _ _ (λ e. pick Again (ltb (rest w) (2 ^ 16)) _ _ (λ l. inr (typed-again 2 s e)) (λ l. inl refl)) (λ n2.
        pick Again (eqb (type_number w) 3) _ _
        (λ e. pick Again (ltb (rest w) (2 ^ 16)) _ _ (λ l. inr (typed-again 3 s e))
        (λ h. pick Again (ltb (rest w) (2 ^ 17)) _ _ (λ l. inr (omega (arith, typed-again 3 s e, ltb-false (rest w) (2 ^ 16) h))) (λ l. inl refl))) (λ n3.
        pick Again (eqb (type_number w) 4) _ _
        (λ e. pick Again (eqb (rest w) 0) _ _ (λ z. inr (omega (arith, typed-again 4 s e, eqb-true (rest w) 0 z))) (λ z. inl refl))
        (λ n4. inl refl))))

  made_again : Again (kind_of w)
  unfolding kind_of
  made_again =
      pick Again (eqb (w / 2 ^ 30 % 2) 1) _ _ float-again (λ plain.
      pick Again (eqb (type_number w) 0) _ _ (integer-again plain) (λ k.
      pick Again (eqb (sign w) 0) _ _ (unsigned-again plain) (λ s. inl refl)))

pub inverse : Inverse
inverse = record { read_back = read_back; made_again = made_again }
