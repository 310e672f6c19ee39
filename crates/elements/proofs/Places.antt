-- Loops over subscripts: the worst fault, and the place in the ravel, summed from the left.
use Prim.Native.Nat.{ℕ, suc, ◌+◌, ◌*◌, ◌≤◌, ◌<◌}
use native.Mathlib.Nat.{mul-le-mul_left, add-mul, mul_assoc, mul-one, zero-mul, zero-add, add-zero, add_assoc}
use native.Mathlib.Numerals.{add-one}
use native.Mathlib.Omega.{arith}
use mathlib.Core.Path.{◌≡◌, refl, sym, ap, ◌∙◌}
use mathlib.Core.Bool.{Bool, true, false, cond, ◌&&◌}
use mathlib.Core.List.{List, [], ◌∷◌}
use lib.ListN.{length, get_or, drop, length-drop}
use lib.Seq.{drop-cons, drop-length}
use Rattle.std.specs.List.{list_all, zip}
use Rattle.descriptor.specs.Fields.{sign, is_character}
use Rattle.scalar.specs.Value.{units}
use Rattle.scalar.specs.declared.Whole.{Whole}
use Rattle.scalar.specs.declared.Whole.TheVariants as W
use Rattle.scalar.specs.Reading.{whole_of, whole_units}
use Rattle.segment.specs.Blocks.{product}
use Rattle.manual.specs.OrTrap.{gives}
use Rattle.manual.specs.Values.{any, is_fraction, in_range, in_ranges, offset, ravel_offset, ravel_place}
use Rattle.manual.proofs.Tests.{both_hold}
use Rattle.manual.proofs.Elements.{place-below}

-- ---- what stands in range is whole

not-letter : (o w l : ℕ) → in_range o (whole_of w) l ≡ true → is_character w ≡ false
unfolding whole_of
not-letter o w l h = by (is_character w) h
  where
    by : (t : Bool) → in_range o (cond t W.Character (whole_units (sign w) (units w))) l ≡ true → t ≡ false
    by true h = sym h
    by false h = refl

not-fraction : (o : ℕ) (v : Whole) (l : ℕ) → in_range o v l ≡ true → is_fraction v ≡ false
not-fraction o (W.Number negative n) l h = refl
not-fraction o W.Fraction l h = sym h
not-fraction o W.Character l h = refl

-- a test that nothing in range passes
module _ (o : ℕ) (test : ℕ → Bool) (fails : (w l : ℕ) → in_range o (whole_of w) l ≡ true → test w ≡ false) where
  none : (s l : List ℕ) → length s ≡ length l → in_ranges o s l ≡ true → any test s ≡ false
  none [] l n h = refl
  none (w ∷ s) [] n h = absurd (omega arith)
  none (w ∷ s) (x ∷ l) n h =
      let p = both_hold (in_range o (whole_of w) x) (in_ranges o s l) h in
      rw (fails w x p.0) (none s l (omega arith) p.1)

pub place-within : (o : ℕ) (s l : List ℕ) → length s ≡ length l → in_ranges o s l ≡ true → gives (ravel_offset o s l) ≡ ravel_place o s l
unfolding ravel_place
place-within o s l n h = rw (none o is_character (not-letter o) s l n h, none o (λ w. is_fraction (whole_of w)) (λ w x. not-fraction o (whole_of w) x) s l n h, h)

-- the test of all pairs
pub ranges-all : (o : ℕ) (s l : List ℕ) → list_all (λ (p : ℕ × ℕ). in_range o (whole_of p.0) p.1) (zip s l) ≡ in_ranges o s l
ranges-all o [] l = refl
ranges-all o (w ∷ s) [] = refl
ranges-all o (w ∷ s) (x ∷ l) = ap (λ (t : Bool). in_range o (whole_of w) x && t) (ranges-all o s l)

-- ---- the sum, from the left

pub record Horner (o : ℕ) (s l : List ℕ) (at i : ℕ) : Type 0 where
  pub so_far : ravel_offset o s l ≡ at * product (drop i l) + ravel_offset o (drop i s) (drop i l)
  pub rest : in_ranges o (drop i s) (drop i l) ≡ true

pub horner-start : {o : ℕ} {s l : List ℕ} → in_ranges o s l ≡ true → Horner o s l 0 0
horner-start {o} {s} {l} h = record { so_far = rw (zero-mul (product l)) (sym (zero-add (ravel_offset o s l))); rest = h }

regroup : (at x p v r : ℕ) → at * (x * p) + (v * p + r) ≡ (at * x + v) * p + r
regroup at x p v r = rw (← mul_assoc at x p, add-mul (at * x) v p) (sym (add_assoc (at * x * p) (v * p) r))

horner-on : {o : ℕ} {s l : List ℕ} {at i : ℕ} → Horner o s l at i → i < length s → i < length l → Horner o s l (at * get_or l i 0 + offset o (whole_of (get_or s i 0))) (i + 1)
horner-on {o} {s} {l} {at} {i} f h k =
    let v = offset o (whole_of (get_or s i 0)) in
    let e : (in_range o (whole_of (get_or s i 0)) (get_or l i 0) && in_ranges o (drop (suc i) s) (drop (suc i) l)) ≡ true = rw (drop-cons s i 0 h, drop-cons l i 0 k) at f.rest in
    let g : ravel_offset o s l ≡ at * (get_or l i 0 * product (drop (suc i) l)) + (v * product (drop (suc i) l) + ravel_offset o (drop (suc i) s) (drop (suc i) l)) = rw (drop-cons s i 0 h, drop-cons l i 0 k) at f.so_far in
    record {
      so_far = rw (add-one i) (g ∙ regroup at (get_or l i 0) (product (drop (suc i) l)) v (ravel_offset o (drop (suc i) s) (drop (suc i) l)));
      rest = rw (add-one i) (both_hold (in_range o (whole_of (get_or s i 0)) (get_or l i 0)) (in_ranges o (drop (suc i) s) (drop (suc i) l)) e).1;
    }

horner-below : {o : ℕ} {s l : List ℕ} {at i : ℕ} → Horner o s l at i → length s ≡ length l → in_ranges o s l ≡ true → at < product l
horner-below {o} {s} {l} {at} {i} f n h =
    bound at (product (drop i l)) (ravel_offset o (drop i s) (drop i l)) (ravel_offset o s l) (product l) f.so_far
    (place-below o (drop i s) (drop i l) (length-drop i s ∙ rw n (sym (length-drop i l))) f.rest) (place-below o s l n h)
  where
    bound : (at p r x q : ℕ) → x ≡ at * p + r → r < p → x < q → at < q
    bound at p r x q e k h = let m : at * 1 ≤ at * p = mul-le-mul_left at (omega arith) in omega (arith, mul-one at)

pub horner-done : {o : ℕ} {s l : List ℕ} {at i : ℕ} → Horner o s l at i → i ≡ length s → i ≡ length l → at ≡ ravel_offset o s l
horner-done {o} {s} {l} {at} {i} f h k = sym (f.so_far ∙ rw (h, drop-length s) (rw (← h, k, drop-length l) (rw (mul-one at) (add-zero at))))

-- a turn of the loop: the place so far fits
module _ {o : ℕ} {s l : List ℕ} {at i : ℕ} (f : Horner o s l at i) (n : length s ≡ length l) (p : product l ≤ 65536) (h : in_ranges o s l ≡ true) (k : i < length s) where
  next : Horner o s l (at * get_or l i 0 + offset o (whole_of (get_or s i 0))) (i + 1)
  next = horner-on f k (omega arith)

  pub turn-product : at * get_or l i 0 < 65536
  turn-product = omega (arith, horner-below next n h)

  module _ {v : ℕ} (e : v ≡ offset o (whole_of (get_or s i 0))) where
    pub turn-sum : at * get_or l i 0 + v < 65536
    turn-sum = omega (arith, horner-below next n h)

    pub turn : Horner o s l (at * get_or l i 0 + v) (i + 1)
    turn = rw e next
