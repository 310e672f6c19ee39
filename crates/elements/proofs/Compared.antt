-- The words that the fast loops store for LESS and EQUAL are right among integers and among floats.
use Rattle.std.proofs.Common.{Ok}
use Prim.Native.Nat.{ℕ, ◌/◌, ◌%◌, ◌^◌}
use native.Mathlib.Omega.{arith}
use mathlib.Core.Path.{◌≡◌, sym, ap, ◌∙◌}
use mathlib.Core.Bool.{Bool, true, false}
use mathlib.Core.Logic.{inr}
use lib.Bits.{bit_and, bit_or}
use lib.Dec.{ltb, eqb}
use borrow.Author.Tests.{eq-eqb, ne_eqb, eqb-true}
use Rattle.descriptor.specs.Fields.{is_character}
use Rattle.descriptor.specs.Kinds.{bit}
use Rattle.scalar.specs.Results.{Answer}
use Rattle.scalar.specs.Operators.{less, equal}
use Rattle.scalar.specs.Parts.{word_place}
use Rattle.scalar.proofs.Operands.{character-bits, small_plain}
use Rattle.scalar.proofs.Equality.{less-numbers, equal-numbers}
use Rattle.scalar.proofs.Ordering.{Alike, below_by, equal_by, integers-alike, floats_alike}
use Rattle.elements.specs.Parts.{Plain, one_kind, seen_with}
use Rattle.elements.proofs.Seen.{plain-operands, float_both}

-- Two numbers whose words lie as their values do: two integers are so, and two floats.
pub record Comparable (x y : ℕ) : Type 0 where
  pub alike : Alike x y
  pub first : is_character x ≡ false
  pub second : is_character y ≡ false

integers : (x y : ℕ) → Plain x → Plain y → Comparable x y
integers x y p q = record { alike = integers-alike x y p q; first = small_plain x p; second = small_plain y q }

floats : (x y : ℕ) → x / 2 ^ 30 % 2 ≡ 1 → y / 2 ^ 30 % 2 ≡ 1 → Comparable x y
floats x y p q = record { alike = floats_alike x y (inr p) (inr q); first = number x p; second = number y q }
  where
    number : (w : ℕ) → w / 2 ^ 30 % 2 ≡ 1 → is_character w ≡ false
    number w h = sym (character-bits w) ∙ ne_eqb (w / 2 ^ 24 % 2 ^ 7) 1 (λ e. omega arith)

-- what was so with two words more, was so before, and they are of one kind
with-both : (floats : Bool) (seen x y : ℕ) → one_kind floats (seen_with floats seen x y) ≡ true → (one_kind floats seen ≡ true) × Comparable x y
with-both true seen x y h =
    let q = float_both (bit_and seen x) y (eqb-true (bit_and (bit_and seen x) y / 2 ^ 30 % 2) 1 h) in
    let r = float_both seen x q.0 in
    (eq-eqb (seen / 2 ^ 30 % 2) 1 r.0, floats x y r.1 q.1)
with-both false seen x y h =
    let q = plain-operands seen x y (eqb-true (bit_or (bit_or seen x) y / 2 ^ 23 % 2 ^ 8) 0 h) in
    (eq-eqb (seen / 2 ^ 23 % 2 ^ 8) 0 q.0, integers x y q.1 q.2)

module _ (x y : ℕ) (k : Comparable x y) where
  pub fast-less : less x y ≡ Ok (bit (ltb (word_place x) (word_place y)))
  fast-less = sym (ap (λ (t : Bool). Ok (bit t)) (below_by x y k.alike) ∙ less-numbers x y k.first k.second)

  pub fast-equal : equal x y ≡ Ok (bit (eqb (word_place x) (word_place y)))
  fast-equal = sym (ap (λ (t : Bool). Ok (bit t)) (equal_by x y k.alike) ∙ equal-numbers x y k.first k.second)

-- A turn of either loop: from the words x and y, the bits seen before and after, and what the test says of the places.
module _ {f : ℕ → ℕ → Answer} (test : ℕ → ℕ → Bool) (right : (x y : ℕ) → Comparable x y → f x y ≡ Ok (bit (test (word_place x) (word_place y)))) where
  pub compared : (floats : Bool) (seen x y : ℕ) {after : ℕ} {says : Bool} → after ≡ seen_with floats seen x y → says ≡ test (word_place x) (word_place y)
      → one_kind floats after ≡ true → (one_kind floats seen ≡ true) × (f x y ≡ Ok (bit says))
  compared floats seen x y put said fine =
      let p = with-both floats seen x y (ap (one_kind floats) (sym put) ∙ fine) in
      (p.0, right x y p.1 ∙ ap (λ (t : Bool). Ok (bit t)) (sym said))
