-- LESS and EQUAL by the places on the line, and by the word of the difference, which has the sign of the exact difference and
-- is 0 only where that is.
use Rattle.std.proofs.Common.{Ok}
use Prim.Native.Nat.{ℕ, ◌+◌, ◌-◌, ◌*◌, ◌/◌, ◌%◌, ◌^◌, ◌≤◌, ◌<◌}
use mathlib.Core.Path.{◌≡◌, refl, sym, ap, ap₂, ◌∙◌, subst}
use mathlib.Core.Bool.{Bool, true, false, cond, ◌&&◌, ◌||◌}
use mathlib.Core.Logic.{⊎_elim, ◌≢◌}
use native.Mathlib.Nat.{eq-zero-or-pos, zero-mul, mul-pos, le_of_lt}
use native.Mathlib.Decide.{ℕ_discrete}
use native.Mathlib.Omega.{arith}
use borrow.Author.Tests.{lt-ltb, le-ltb, eq-eqb, ne_eqb}
use lib.Dec.{ltb, eqb, lit<}
use lib.Pow.{pow_pos}
use Rattle.descriptor.specs.Fields.{sign, magnitude, is_character, integer_word}
use Rattle.descriptor.specs.Kinds.{bit}
use Rattle.descriptor.proofs.Truth.{neither}
use Rattle.scalar.specs.Value.{one, units, one_float, character_code}
use Rattle.scalar.specs.Results.{rounded, type_error}
use Rattle.scalar.specs.Order.{side, is_below, is_equal}
use Rattle.scalar.specs.Operators.{sum_sign, sum_size, plus, minus, difference, less, equal}
use Rattle.scalar.specs.Parts.{one_character}
use Rattle.scalar.proofs.Operands.{numbers-plain, numbers-character, first-float, second-float}
use Rattle.scalar.proofs.Rounding.{rounded-none}
use Rattle.scalar.proofs.Addition.{like, less as lower, more, cases, sign-lt, scaled, plus-float, plus-integers, minus-integers, either}
use Rattle.scalar.proofs.Equality.{less-numbers, equal-numbers, equal-first, equal-second}
use Rattle.scalar.proofs.Ordering.{Follows, follows-ltb, follows-eqb, placed}
use Rattle.scalar.proofs.Units.{units-integer}
use Rattle.scalar_theorems.specs.Line.{middle, line_place}
use Rattle.scalar_theorems.specs.Comparing.{Compares}
use Rattle.scalar_theorems.proofs.Words.{never, same_word, integer-word, rounded-word, float-pos, below-middle}

-- ---- numbers, by their places on the line

itself : {p q : ℕ} → Follows p q p q
itself = record { up = λ l. l; same = λ e. e; down = λ l. l }

module _ (a b : ℕ) (p : is_character a ≡ false) (q : is_character b ≡ false) where
  on_line : Follows (line_place a) (line_place b) (side a b) (side b a)
  unfolding line_place side
  on_line = placed middle (sign a) (sign b) (le_of_lt (below-middle a)) (le_of_lt (below-middle b)) itself itself itself

  less-line : less a b ≡ Ok (bit (ltb (line_place a) (line_place b)))
  unfolding is_below
  less-line = sym (ap (λ (t : Bool). Ok (bit t)) (follows-ltb on_line) ∙ less-numbers a b p q)

  equal-line : equal a b ≡ Ok (bit (eqb (line_place a) (line_place b)))
  unfolding is_equal
  equal-line = sym (ap (λ (t : Bool). Ok (bit t)) (follows-eqb on_line) ∙ equal-numbers a b p q)

-- ---- characters

less-of-character : (a b : ℕ) → (is_character a || is_character b) ≡ true → less a b ≡ type_error
unfolding less
less-of-character a b h = numbers-character a b (Ok (bit (is_below a b))) h

equal-of-characters : (a b : ℕ) → is_character a ≡ true → is_character b ≡ true → equal a b ≡ Ok (bit (eqb (character_code a) (character_code b)))
equal-of-characters a b h k = sym (equal-first a b h) ∙ ap (λ (t : Bool). Ok (bit (t && eqb (character_code a) (character_code b)))) k

equal-of-kinds : (a b : ℕ) → is_character a ≢ is_character b → equal a b ≡ Ok 0
equal-of-kinds a b h = go (is_character a) (is_character b) refl refl
  where
    go : (t u : Bool) → is_character a ≡ t → is_character b ≡ u → equal a b ≡ Ok 0
    go true true p q = absurd (h (p ∙ sym q))
    go true false p q = sym (equal-first a b p) ∙ ap (λ (t : Bool). Ok (bit (t && eqb (character_code a) (character_code b)))) q
    go false true p q = sym (equal-second a b p q)
    go false false p q = absurd (h (p ∙ sym q))

-- ---- the order of two sides, by the sign g and the magnitude d of the difference

pub record Ordered (x y g d : ℕ) : Type 0 where
  pub same : d ≡ 0 → x ≡ y
  pub below : 0 < d → g ≡ 1 → x < y
  pub above : 0 < d → g ≡ 0 → y < x

-- the side of a first number, of magnitude a with the sign s, against a second, of magnitude b with the sign r
abbrev side_of : ℕ → ℕ → ℕ → ℕ → ℕ
side_of s a r b = cond (eqb s 0) a 0 + cond (eqb r 0) 0 b

module _ (s a r b : ℕ) where
  both-plus : s ≡ 0 → r ≡ 0 → side_of s a r b ≡ a
  both-plus h k = simp (eq-eqb s 0 h, eq-eqb r 0 k) (omega arith)

  plus-minus : s ≡ 0 → r ≡ 1 → side_of s a r b ≡ a + b
  plus-minus h k = simp (eq-eqb s 0 h, ne_eqb r 0 (λ z. omega arith))

  minus_plus : s ≡ 1 → r ≡ 0 → side_of s a r b ≡ 0
  minus_plus h k = simp (ne_eqb s 0 (λ z. omega arith), eq-eqb r 0 k)

  both-minus : s ≡ 1 → r ≡ 1 → side_of s a r b ≡ b
  both-minus h k = simp (ne_eqb s 0 (λ z. omega arith), ne_eqb r 0 (λ z. omega arith)) (omega arith)

module _ (s a r b : ℕ) (p : s < 2) (q : r < 2) where
  Goal : Type 0
  Goal = Ordered (side_of s a r b) (side_of r b s a) (sum_sign s a (1 - r) b) (sum_size s a (1 - r) b)

  -- the signs, and the sum that they make
  by : (g d x y : ℕ) → sum_sign s a (1 - r) b ≡ g → sum_size s a (1 - r) b ≡ d → side_of s a r b ≡ x → side_of r b s a ≡ y → Ordered x y g d → Goal
  unfolding Goal
  by g d x y e f u v o =
      subst (λ (z : ℕ). Ordered z (side_of r b s a) (sum_sign s a (1 - r) b) (sum_size s a (1 - r) b)) (sym u)
      (subst (λ (z : ℕ). Ordered x z (sum_sign s a (1 - r) b) (sum_size s a (1 - r) b)) (sym v)
      (subst (λ (z : ℕ). Ordered x y z (sum_size s a (1 - r) b)) (sym e) (subst (λ (z : ℕ). Ordered x y g z) (sym f) o)))

  alike : s ≡ 1 - r → Goal
  alike e =
      let k = like s a (1 - r) b e in
      either Goal s p
      (λ z. by s (a + b) (a + b) 0 k.0 k.1 (plus-minus s a r b z (omega arith)) (minus_plus r b s a (omega arith) z) (record { same = λ d. d; below = λ d g. absurd (omega arith); above = λ d g. d }))
      (λ z. by s (a + b) 0 (b + a) k.0 k.1 (minus_plus s a r b z (omega arith)) (plus-minus r b s a (omega arith) z) (record { same = λ d. omega arith; below = λ d g. omega arith; above = λ d g. absurd (omega arith) }))

  lesser : (s ≡ 1 - r → ⊥) → a < b → Goal
  lesser e l =
      let k = lower s a (1 - r) b e l in
      either Goal s p
      (λ z. by (1 - r) (b - a) a b k.0 k.1 (both-plus s a r b z (omega (arith, e))) (both-plus r b s a (omega (arith, e)) z) (record { same = λ d. omega arith; below = λ d g. l; above = λ d g. absurd (e (omega arith)) }))
      (λ z. by (1 - r) (b - a) b a k.0 k.1 (both-minus s a r b z (omega (arith, e))) (both-minus r b s a (omega (arith, e)) z) (record { same = λ d. omega arith; below = λ d g. absurd (e (omega arith)); above = λ d g. l }))

  greater : (s ≡ 1 - r → ⊥) → b ≤ a → Goal
  greater e l =
      let k = more s a (1 - r) b e l in
      either Goal s p
      (λ z. by s (a - b) a b k.0 k.1 (both-plus s a r b z (omega (arith, e))) (both-plus r b s a (omega (arith, e)) z) (record { same = λ d. omega arith; below = λ d g. absurd (omega arith); above = λ d g. omega arith }))
      (λ z. by s (a - b) b a k.0 k.1 (both-minus s a r b z (omega (arith, e))) (both-minus r b s a (omega (arith, e)) z) (record { same = λ d. omega arith; below = λ d g. omega arith; above = λ d g. absurd (omega arith) }))

  ordered : Goal
  ordered = cases s a (1 - r) b Goal alike lesser greater

-- ---- the word of the difference

-- w is 0 where the difference is, and else has its sign
pub record Told (w g d : ℕ) : Type 0 where
  pub none : d ≡ 0 → w ≡ 0
  pub some : 0 < d → 0 < w
  pub signed : 0 < d → sign w ≡ g

-- the word of an integer
pub integer-none : (g d : ℕ) → d ≡ 0 → integer_word g d ≡ 0
integer-none g d z = simp (eq-eqb d 0 z)

integer-some : (g d : ℕ) → 0 < d → integer_word g d ≡ g * 2 ^ 31 + d
integer-some g d z = simp (ne_eqb d 0 (λ y. omega arith))

integer-told : (g d w : ℕ) → g < 2 → d < 2 ^ 23 → integer_word g d ≡ w → Told w g d
integer-told g d w p l h =
    record {
      none = λ z. sym h ∙ integer-none g d z;
      some = λ z. omega (arith, integer-some g d z, h);
      signed = λ z. omega (arith, integer-some g d z, h);
    }

-- the same in units of another size
told-scaled : (w g d x y k : ℕ) → 0 < k → g ≡ x → d ≡ y * k → Told w x y → Told w g d
told-scaled w g d x y k p e f t =
    record {
      none = λ z. ⊎_elim (λ (q : y ≡ 0). t.none q) (λ (q : 0 < y). absurd (lost (y * k) (mul-pos q p) (sym f ∙ z))) (eq-zero-or-pos y);
      some = λ z. t.some (pos z);
      signed = λ z. t.signed (pos z) ∙ sym e;
    }
  where
    lost : (n : ℕ) → 0 < n → n ≡ 0 → ⊥
    lost n p z = omega arith

    pos : 0 < d → 0 < y
    pos z = ⊎_elim (λ (q : y ≡ 0). absurd (lost d z (f ∙ ap (λ (n : ℕ). n * k) q ∙ zero-mul k))) (λ (q : 0 < y). q) (eq-zero-or-pos y)

module _ (a b w : ℕ) (fa : a < 2 ^ 32) (fb : b < 2 ^ 32) (h : difference a b ≡ Ok w) where
  typed : one_character a b ≡ true → difference a b ≡ type_error
  unfolding difference
  typed e = numbers-character a b (minus a b) e

  plain : one_character a b ≡ false
  plain = go (one_character a b) refl
    where
      go : (x : Bool) → one_character a b ≡ x → one_character a b ≡ false
      go false e = e
      go true e = absurd (never h (typed e))

  given : minus a b ≡ Ok w
  unfolding difference
  given = sym (numbers-plain a b (minus a b) plain) ∙ h

  -- the exact difference
  g : ℕ
  g = sum_sign (sign a) (units a) (1 - sign b) (units b)

  d : ℕ
  d = sum_size (sign a) (units a) (1 - sign b) (units b)

  g-lt : g < 2
  unfolding g
  g-lt = sign-lt (sign a) (units a) (1 - sign b) (units b) (omega arith) (omega arith)

  floating : one_float a b ≡ true → Told w g d
  unfolding minus g d
  floating e =
      let r : rounded (sum_sign (sign a) (units a) (1 - sign b) (units b)) (sum_size (sign a) (units a) (1 - sign b) (units b)) 1 ≡ Ok w = sym (plus-float (sign a) (units a) (1 - sign b) (units b)) ∙ sym (ap (λ (x : Bool). plus x (sign a) (units a) (1 - sign b) (units b)) e) ∙ given in
      record {
        none = λ z. sym (same_word r (ap (λ (x : ℕ). rounded (sum_sign (sign a) (units a) (1 - sign b) (units b)) x 1) z ∙ rounded-none (sum_sign (sign a) (units a) (1 - sign b) (units b)) 1));
        some = λ z. float-pos w (rounded-word _ _ 1 w g-lt (lit< tt) z r).float;
        signed = λ z. (rounded-word _ _ 1 w g-lt (lit< tt) z r).signed;
      }

  integers : a / 2 ^ 30 % 2 ≡ 0 → b / 2 ^ 30 % 2 ≡ 0 → Told w g d
  unfolding g d
  integers p q =
      let x : ℕ = sum_sign (sign a) (magnitude a) (1 - sign b) (magnitude b) in
      let y : ℕ = sum_size (sign a) (magnitude a) (1 - sign b) (magnitude b) in
      let k = scaled (sign a) (magnitude a) (1 - sign b) (magnitude b) one (pow_pos 150) in
      let r = integer-word x y w (sym (plus-integers (sign a) (magnitude a) (1 - sign b) (magnitude b)) ∙ minus-integers a b p q ∙ given) in
      told-scaled w _ _ x y one (pow_pos 150)
      (ap₂ (λ (n m : ℕ). sum_sign (sign a) n (1 - sign b) m) (units-integer a p) (units-integer b q) ∙ k.0)
      (ap₂ (λ (n m : ℕ). sum_size (sign a) n (1 - sign b) m) (units-integer a p) (units-integer b q) ∙ k.1)
      (integer-told x y w (sign-lt (sign a) (magnitude a) (1 - sign b) (magnitude b) (omega arith) (omega arith)) r.0 r.1)

  told : Told w g d
  told = elim (ℕ_discrete (a / 2 ^ 30 % 2) 0) [
    | yes p ↦ elim (ℕ_discrete (b / 2 ^ 30 % 2) 0) [
      | yes q ↦ integers p q
      | no q ↦ floating (second-float a b p q)
    ]
    | no p ↦ floating (first-float a b p)
  ]

  order : Ordered (side a b) (side b a) g d
  unfolding side g d Goal
  order = ordered (sign a) (units a) (sign b) (units b) (omega arith) (omega arith)

  -- ---- both agree, by whether the difference is zero, and its sign

  Agrees : Type 0
  Agrees = (bit (is_below a b) ≡ sign w) × (bit (is_equal a b) ≡ bit (eqb w 0))

  agrees : Agrees
  unfolding Agrees is_below is_equal
  agrees = ⊎_elim
      (λ (z : d ≡ 0). let k = told.none z in let o = order.same z in (
        ap bit (le-ltb (side a b) (side b a) (omega arith)) ∙ sym (ap sign k),
        ap bit (eq-eqb (side a b) (side b a) o) ∙ sym (ap bit (eq-eqb w 0 k)),
      ))
      (λ (z : 0 < d). either ((bit (ltb (side a b) (side b a)) ≡ sign w) × (bit (eqb (side a b) (side b a)) ≡ bit (eqb w 0))) g g-lt
      (λ e. let o = order.above z e in (
        ap bit (le-ltb (side a b) (side b a) (omega arith)) ∙ sym (told.signed z ∙ e),
        differ z (λ y. omega arith),
      ))
      (λ e. let o = order.below z e in (
        ap bit (lt-ltb (side a b) (side b a) o) ∙ sym (told.signed z ∙ e),
        differ z (λ y. omega arith),
      )))
      (eq-zero-or-pos d)
    where
      differ : 0 < d → (side a b ≡ side b a → ⊥) → bit (eqb (side a b) (side b a)) ≡ bit (eqb w 0)
      differ z n = let k = told.some z in ap bit (ne_eqb (side a b) (side b a) n) ∙ sym (ap bit (ne_eqb w 0 (λ y. omega arith)))

  first-number : is_character a ≡ false
  first-number = (neither (is_character a) (is_character b) plain).0

  second-number : is_character b ≡ false
  second-number = (neither (is_character a) (is_character b) plain).1

  less_by : less a b ≡ Ok (sign w)
  unfolding Agrees
  less_by = sym (less-numbers a b first-number second-number) ∙ ap Ok agrees.0

  equal_by : equal a b ≡ Ok (bit (eqb w 0))
  unfolding Agrees
  equal_by = sym (equal-numbers a b first-number second-number) ∙ ap Ok agrees.1

pub compares : Compares
compares =
    record {
      less-exact = less-line;
      equal-exact = equal-line;
      less-difference = less_by;
      equal-difference = equal_by;
      less-character = less-of-character;
      equal-characters = equal-of-characters;
      equal-kinds = equal-of-kinds;
    }
