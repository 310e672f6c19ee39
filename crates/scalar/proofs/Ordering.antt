-- The order of numbers is that of places: of signed magnitudes on any line, and of words of one kind.
use Rattle.std.proofs.Common.{◌≡◌, ℕ, ◌+◌, ◌-◌, ◌*◌, ◌/◌, ◌%◌, ◌^◌, ◌<◌, ◌≤◌, Bool, true, false, cond, eqb, ltb, sym, refl, ap, ◌∙◌, ap₂, inl, inr, ⊎_elim, le_trans, lt_of_lt_of_le, eq-zero-or-pos, mul-lt-mul_of_pos_right, mul-pos, zero-add, zero-mul, arith, pow_pos, pow_mono, le-ltb, lt-ltb, eq-eqb, ne_eqb}
use native.Mathlib.Decide.{dec_lt, ℕ_discrete}
use lib.Arith.{mod-mul}
use Rattle.descriptor.specs.Fields.{sign, float_word}
use Rattle.descriptor.proofs.Inverse.{float-fields}
use Rattle.scalar.specs.Value.{one, units}
use Rattle.scalar.specs.Order.{credit, debit, side, is_below, is_equal}
use Rattle.scalar.specs.Parts.{Unpacked, Normal, both_small, AsFloat, FloatOrZero, signed_place, word_place}
use Rattle.scalar.proofs.Operands.{Small, small-first, small-second}
use Rattle.scalar.proofs.Rounding.{not-lt-le, up_le, up_lt}
use Rattle.scalar.proofs.Units.{units-integer, units-float}

-- r and s lie as p and q do.
pub record Follows (p q r s : ℕ) : Type 0 where
  pub up : p < q → r < s
  pub same : p ≡ q → r ≡ s
  pub down : q < p → s < r

module _ {p q r s : ℕ} (o : Follows p q r s) where
  pub follows-ltb : ltb p q ≡ ltb r s
  follows-ltb = elim (dec_lt p q) [
    | yes l ↦ lt-ltb p q l ∙ sym (lt-ltb r s (o.up l))
    | no l ↦ le-ltb p q (not-lt-le l) ∙ sym (le-ltb r s (not-below (not-lt-le l)))
  ]
    where
      not-below : q ≤ p → s ≤ r
      not-below l = elim (ℕ_discrete p q) [
        | yes e ↦ omega (arith, o.same e)
        | no e ↦ omega (arith, o.down (omega (arith, e)))
      ]

  pub follows-eqb : eqb p q ≡ eqb r s
  follows-eqb = elim (ℕ_discrete p q) [
    | yes e ↦ eq-eqb p q e ∙ sym (eq-eqb r s (o.same e))
    | no e ↦ ne_eqb p q e ∙ sym (ne_eqb r s (apart e))
  ]
    where
      apart : (p ≡ q → ⊥) → r ≡ s → ⊥
      apart e h = elim (dec_lt p q) [
        | yes l ↦ let k = o.up l in omega arith
        | no l ↦ let k = o.down (omega (arith, e, l)) in omega arith
      ]

-- the same of equal numbers
moved : {p q r s p' q' r' s' : ℕ} → p ≡ p' → q ≡ q' → r ≡ r' → s ≡ s' → Follows p' q' r' s' → Follows p q r s
moved e f g h o =
    record {
      up = λ l. let k = o.up (omega arith) in omega arith;
      same = λ l. let k = o.same (omega arith) in omega arith;
      down = λ l. let k = o.down (omega arith) in omega arith;
    }

scaled : (p q k : ℕ) → 0 < k → Follows p q (p * k) (q * k)
scaled p q k h = record { up = λ l. mul-lt-mul_of_pos_right l h; same = λ e. ap (λ (x : ℕ). x * k) e; down = λ l. mul-lt-mul_of_pos_right l h }

-- ---- signed magnitudes on a line with zero at z

-- the sides of two numbers lie as their places do, if their magnitudes do, and each of these with zero
pub placed : {m n u v : ℕ} (z s t : ℕ) → m ≤ z → n ≤ z → Follows m n u v → Follows 0 m 0 u → Follows 0 n 0 v
    → Follows (signed_place z s m) (signed_place z t n) (cond (eqb s 0) u 0 + cond (eqb t 0) 0 v) (cond (eqb t 0) v 0 + cond (eqb s 0) 0 u)
placed {m} {n} {u} {v} z s t i j o f g = by (eqb s 0) (eqb t 0)
  where
    some : 0 < m + n → 0 < u + v
    some l = elim (dec_lt 0 m) [
      | yes p ↦ let k = f.up p in omega arith
      | no p ↦ let k = g.up (omega (arith, p)) in omega arith
    ]

    by : (c d : Bool) → Follows (cond c (z + m) (z - m)) (cond d (z + n) (z - n)) (cond c u 0 + cond d 0 v) (cond d v 0 + cond c 0 u)
    by true true =
        record {
          up = λ l. let k = o.up (omega arith) in omega arith;
          same = λ l. let k = o.same (omega arith) in omega arith;
          down = λ l. let k = o.down (omega arith) in omega arith;
        }
    by false false =
        record {
          up = λ l. let k = o.down (omega arith) in omega arith;
          same = λ l. let k = o.same (omega arith) in omega arith;
          down = λ l. let k = o.up (omega arith) in omega arith;
        }
    by true false =
        record {
          up = λ l. omega arith;
          same = λ l. let k = f.same (omega arith) in let h = g.same (omega arith) in omega arith;
          down = λ l. some (omega arith);
        }
    by false true =
        record {
          up = λ l. let k = some (omega arith) in omega arith;
          same = λ l. let k = f.same (omega arith) in let h = g.same (omega arith) in omega arith;
          down = λ l. omega arith;
        }

-- ---- words of one kind

-- The magnitudes of two numbers lie as their words do without the sign.
pub record Alike (x y : ℕ) : Type 0 where
  pub between : Follows (x % 2 ^ 31) (y % 2 ^ 31) (units x) (units y)
  pub first : Follows 0 (x % 2 ^ 31) 0 (units x)
  pub second : Follows 0 (y % 2 ^ 31) 0 (units y)

module _ (x y : ℕ) (k : Alike x y) where
  places : Follows (word_place x) (word_place y) (side x y) (side y x)
  unfolding side
  places = placed (2 ^ 31) (sign x) (sign y) (omega arith) (omega arith) k.between k.first k.second

  pub below_by : ltb (word_place x) (word_place y) ≡ is_below x y
  unfolding is_below
  below_by = follows-ltb places

  pub equal_by : eqb (word_place x) (word_place y) ≡ is_equal x y
  unfolding is_equal
  equal_by = follows-eqb places

-- integers
small_units : (w : ℕ) → Small w → units w ≡ w % 2 ^ 31 * one
small_units w h = units-integer w (omega arith) ∙ ap (λ (m : ℕ). m * one) (sym (mod-mul w {m = 2 ^ 8} {c = 2 ^ 23} (pow_pos 8) (pow_pos 23) ∙ ap (λ (x : ℕ). x * 2 ^ 23 + w % 2 ^ 23) h ∙ zero-add (w % 2 ^ 23)))

pub integers-alike : (x y : ℕ) → Small x → Small y → Alike x y
integers-alike x y h k =
    record {
      between = moved refl refl (small_units x h) (small_units y k) (scaled (x % 2 ^ 31) (y % 2 ^ 31) one (pow_pos 150));
      first = moved refl refl refl (small_units x h) (scaled 0 (x % 2 ^ 31) one (pow_pos 150));
      second = moved refl refl refl (small_units y k) (scaled 0 (y % 2 ^ 31) one (pow_pos 150));
    }

module _ (a b : ℕ) (h : both_small a b ≡ true) where
  pub below-small : ltb (word_place a) (word_place b) ≡ is_below a b
  below-small = below_by a b (integers-alike a b (small-first a b h) (small-second a b h))

  pub equal-small : eqb (word_place a) (word_place b) ≡ is_equal a b
  equal-small = equal_by a b (integers-alike a b (small-first a b h) (small-second a b h))

-- floats: the exponent goes before the fraction
rises : (f e g d : ℕ) → f < 2 ^ 22 → g < 2 ^ 22 → e * 2 ^ 22 + f < d * 2 ^ 22 + g → (2 ^ 22 + f) * 2 ^ e < (2 ^ 22 + g) * 2 ^ d
rises f e g d p q l = elim (dec_lt e d) [
  | yes h ↦ lt_of_lt_of_le (up_lt (2 ^ 22 + f) 23 e (23 + e) (omega arith) refl) (le_trans (pow_mono {i = 23 + e} {j = 22 + d} (omega arith)) (up_le (2 ^ 22 + g) 22 d (22 + d) (omega arith) refl))
  | no h ↦ level (omega (arith, h))
]
  where
    level : e ≡ d → (2 ^ 22 + f) * 2 ^ e < (2 ^ 22 + g) * 2 ^ d
    level h = rw h (mul-lt-mul_of_pos_right {m = 2 ^ 22 + f} {n = 2 ^ 22 + g} {k = 2 ^ d} (omega arith) (pow_pos d))

zero-units : units 0 ≡ 0
unfolding units
zero-units = refl

float-units : (w : ℕ) → w / 2 ^ 30 % 2 ≡ 1 → units w ≡ (2 ^ 22 + w % 2 ^ 22) * 2 ^ (w / 2 ^ 22 % 2 ^ 8)
float-units w h = units-float w (λ z. omega arith)

-- a float's word without its sign
float_word_lem : (w : ℕ) → w / 2 ^ 30 % 2 ≡ 1 → w % 2 ^ 31 ≡ 2 ^ 30 + (w / 2 ^ 22 % 2 ^ 8 * 2 ^ 22 + w % 2 ^ 22)
float_word_lem w h = mod-mul w {m = 2} {c = 2 ^ 30} (pow_pos 1) (pow_pos 30) ∙ ap₂ (λ (a b : ℕ). a * 2 ^ 30 + b) h (mod-mul w {m = 2 ^ 8} {c = 2 ^ 22} (pow_pos 8) (pow_pos 22))

float-rises : (x y : ℕ) → x / 2 ^ 30 % 2 ≡ 1 → y / 2 ^ 30 % 2 ≡ 1 → x % 2 ^ 31 < y % 2 ^ 31 → units x < units y
float-rises x y h k l = rw (float-units x h, float-units y k) (rises (x % 2 ^ 22) (x / 2 ^ 22 % 2 ^ 8) (y % 2 ^ 22) (y / 2 ^ 22 % 2 ^ 8) (omega arith) (omega arith) (omega (arith, float_word_lem x h, float_word_lem y k)))

float-parts : (f e g d : ℕ) → f < 2 ^ 22 → g < 2 ^ 22 → 2 ^ 30 + (e * 2 ^ 22 + f) ≡ 2 ^ 30 + (d * 2 ^ 22 + g) → (f ≡ g) × (e ≡ d)
float-parts f e g d p q h = (omega arith, omega arith)

float-level : (x y : ℕ) → x / 2 ^ 30 % 2 ≡ 1 → y / 2 ^ 30 % 2 ≡ 1 → x % 2 ^ 31 ≡ y % 2 ^ 31 → units x ≡ units y
float-level x y h k e =
    let p = float-parts (x % 2 ^ 22) (x / 2 ^ 22 % 2 ^ 8) (y % 2 ^ 22) (y / 2 ^ 22 % 2 ^ 8) (omega arith) (omega arith) (sym (float_word_lem x h) ∙ e ∙ float_word_lem y k) in
    float-units x h ∙ ap₂ (λ (m n : ℕ). (2 ^ 22 + m) * 2 ^ n) p.0 p.1 ∙ sym (float-units y k)

float-some : (w : ℕ) → w / 2 ^ 30 % 2 ≡ 1 → 0 < units w
float-some w h = rw (float-units w h) (mul-pos (omega arith) (pow_pos (w / 2 ^ 22 % 2 ^ 8)))

floats-follow : (x y : ℕ) → FloatOrZero x → FloatOrZero y → Follows (x % 2 ^ 31) (y % 2 ^ 31) (units x) (units y)
floats-follow x y = ⊎_elim
    (λ (h : x ≡ 0). ⊎_elim (λ (k : y ≡ 0). rw (h, k) (record { up = λ l. omega arith; same = λ e. refl; down = λ l. omega arith })) (λ (k : y / 2 ^ 30 % 2 ≡ 1). rw h (record { up = λ l. rw zero-units (float-some y k); same = λ e. omega arith; down = λ l. omega arith })))
    (λ (h : x / 2 ^ 30 % 2 ≡ 1). ⊎_elim
    (λ (k : y ≡ 0). rw k (record { up = λ l. omega arith; same = λ e. omega arith; down = λ l. rw zero-units (float-some x h) }))
    (λ (k : y / 2 ^ 30 % 2 ≡ 1). record { up = float-rises x y h k; same = float-level x y h k; down = float-rises y x k h }))

pub floats_alike : (x y : ℕ) → FloatOrZero x → FloatOrZero y → Alike x y
floats_alike x y h k =
    record {
      between = floats-follow x y h k;
      first = moved refl refl (sym zero-units) refl (floats-follow 0 x (inl refl) h);
      second = moved refl refl (sym zero-units) refl (floats-follow 0 y (inl refl) k);
    }

-- ---- a number as a float

pub float-itself : (w : ℕ) → w / 2 ^ 30 % 2 ≡ 1 → AsFloat w w
float-itself w h = record { float = inr h; size = refl; signed = λ z. refl }

pub float_zero : {w g e : ℕ} → Unpacked w g e → g ≡ 0 → AsFloat w 0
float_zero {w} {g} {e} u h = let n : units w ≡ 0 = u.value ∙ ap (λ (x : ℕ). x * 2 ^ e) h ∙ zero-mul (2 ^ e) in record { float = inl refl; size = zero-units ∙ sym n; signed = λ z. absurd (omega arith) }

pub float-made : {w g e : ℕ} → sign w < 2 → Unpacked w g e → Normal g e → AsFloat w (float_word (sign w) e (g - 2 ^ 22))
float-made {w} {g} {e} q u n =
    let long = n.long in
    let short = n.short in
    let h = float-fields (sign w) e (g - 2 ^ 22) (omega arith) n.small (omega arith) in
    record {
      float = inr h.0;
      size = float-units (float_word (sign w) e (g - 2 ^ 22)) h.0 ∙ ap₂ (λ (x y : ℕ). (2 ^ 22 + x) * 2 ^ y) h.3 h.2 ∙ whole long ∙ sym u.value;
      signed = λ z. h.1;
    }
  where
    whole : 2 ^ 22 ≤ g → (2 ^ 22 + (g - 2 ^ 22)) * 2 ^ e ≡ g * 2 ^ e
    whole l = let k : 2 ^ 22 + (g - 2 ^ 22) ≡ g = omega arith in ap (λ (x : ℕ). x * 2 ^ e) k

-- the float has the same credit and the same debit
none : (c : Bool) → cond {A = ℕ} c 0 0 ≡ 0
none true = refl
none false = refl

module _ {w r : ℕ} (f : AsFloat w r) where
  same-value : (g : ℕ → ℕ → ℕ) → ((s : ℕ) → g s 0 ≡ 0) → g (sign r) (units r) ≡ g (sign w) (units w)
  same-value g h =
      ⊎_elim
      (λ (z : units w ≡ 0). ap (g (sign r)) (f.size ∙ z) ∙ h (sign r) ∙ sym (h (sign w)) ∙ ap (g (sign w)) (sym z))
      (λ (z : 0 < units w). ap₂ g (f.signed z) f.size)
      (eq-zero-or-pos (units w))

  same-credit : credit r ≡ credit w
  same-credit = same-value (λ s n. cond (eqb s 0) n 0) (λ s. none (eqb s 0))

  same-debit : debit r ≡ debit w
  same-debit = same-value (λ s n. cond (eqb s 0) 0 n) (λ s. none (eqb s 0))

module _ {a b r q : ℕ} (f : AsFloat a r) (g : AsFloat b q) where
  there : side r q ≡ side a b
  unfolding side
  there = ap₂ ◌+◌ (same-credit f) (same-debit g)

  back : side q r ≡ side b a
  unfolding side
  back = ap₂ ◌+◌ (same-credit g) (same-debit f)

  pub below-floats : ltb (word_place r) (word_place q) ≡ is_below a b
  unfolding is_below
  below-floats = below_by r q (floats_alike r q f.float g.float) ∙ ap₂ ltb there back

  pub equal-floats : eqb (word_place r) (word_place q) ≡ is_equal a b
  unfolding is_equal
  equal-floats = equal_by r q (floats_alike r q f.float g.float) ∙ ap₂ eqb there back
