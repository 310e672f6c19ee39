-- A product of lengths told by division: n is divided by each length in turn.
use Prim.Native.Nat.{ℕ, ◌+◌, ◌*◌, ◌/◌, ◌%◌, ◌<◌}
use native.Mathlib.Nat.{mul-zero, zero-mul, mul-mod_right, div-eq_of_eq-mul_right, mul-div_cancel', dvd_of_mod-eq-zero}
use native.Mathlib.Numerals.{add-one}
use native.Mathlib.Omega.{arith}
use mathlib.Core.Path.{◌≡◌, refl, sym, ap, ◌∙◌}
use mathlib.Core.Bool.{Bool, true, false, ◌||◌}
use mathlib.Core.List.{List, [], ◌∷◌}
use lib.ListN.{length, get_or, drop}
use lib.Seq.{drop-cons}
use lib.Dec.{eqb}
use borrow.Author.Tests.{eqb-false, ne_eqb}
use Rattle.descriptor.proofs.Truth.{neither, same_test}
use Rattle.segment.specs.Blocks.{product}
use Rattle.acceptance_storage.proofs.Tests.{by-eq, never}
use Rattle.std.specs.List.{list_any}
use Rattle.manual.specs.Values.{any}

pub same-any : (test : ℕ → Bool) (xs : List ℕ) → list_any test xs ≡ any test xs
same-any test [] = refl
same-any test (x ∷ xs) = ap (λ (b : Bool). test x || b) (same-any test xs)

abbrev pub is_zero : ℕ → Bool
is_zero l = eqb l 0

zero-product : (lengths : List ℕ) → list_any is_zero lengths ≡ true → product lengths ≡ 0
zero-product [] some = absurd (never some)
zero-product (l ∷ lengths) some =
    by-eq l 0
    (λ e. ap (λ (k : ℕ). k * product lengths) e ∙ zero-mul (product lengths))
    (λ e. ap (λ (k : ℕ). l * k) (zero-product lengths (simp (ne_eqb l 0 e) at some)) ∙ mul-zero l)

pub empty : (lengths : List ℕ) (n : ℕ) → list_any is_zero lengths ≡ true → eqb n 0 ≡ eqb (product lengths) n
empty lengths n some = rw (zero-product lengths some) (same_test n 0 0 n (λ e. sym e) (λ e. sym e))

-- n is the product of all lengths where `rest` is that of the lengths from i on, none of which is 0
pub record Divided (lengths : List ℕ) (n rest i : ℕ) : Type 0 where
  pub so_far : eqb (product lengths) n ≡ eqb (product (drop i lengths)) rest
  pub nonzero : list_any is_zero (drop i lengths) ≡ false

module _ {lengths : List ℕ} {n rest i : ℕ} (d : Divided lengths n rest i) where
  module _ (inside : i < length lengths) where
    here : (is_zero (get_or lengths i 0) ≡ false) × (list_any is_zero (drop (i + 1) lengths) ≡ false)
    here = rw add-one (neither _ _ (rw (drop-cons lengths i 0 inside) at d.nonzero))

    pub divisor : get_or lengths i 0 ≡ 0 → ⊥
    divisor = eqb-false _ _ here.0

    positive : 0 < get_or lengths i 0
    positive = omega (arith, divisor)

    longer : eqb (product lengths) n ≡ eqb (get_or lengths i 0 * product (drop (i + 1) lengths)) rest
    longer = d.so_far ∙ rw (add-one, drop-cons lengths i 0 inside)

    pub divided-on : rest % get_or lengths i 0 ≡ 0 → Divided lengths n (rest / get_or lengths i 0) (i + 1)
    divided-on exact =
        record {
          so_far =
              longer
              ∙ same_test _ _ _ _
              (λ e. sym (div-eq_of_eq-mul_right positive (sym e)))
              (λ e. ap (λ (k : ℕ). get_or lengths i 0 * k) e ∙ mul-div_cancel' (get_or lengths i 0) (dvd_of_mod-eq-zero (get_or lengths i 0) exact));
          nonzero = here.1;
        }

    pub divided-not : (rest % get_or lengths i 0 ≡ 0 → ⊥) → false ≡ eqb (product lengths) n
    divided-not inexact =
        sym (longer ∙ ne_eqb _ _ (λ e. inexact (ap (λ (k : ℕ). k % get_or lengths i 0) (sym e) ∙ mul-mod_right (get_or lengths i 0) (product (drop (i + 1) lengths)))))
