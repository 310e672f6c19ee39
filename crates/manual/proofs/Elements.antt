-- How many elements there are, and that subscripts in their ranges lead to one of them.
use Prim.Native.Nat.{ℕ, zero, suc, ◌+◌, ◌*◌, ◌<◌, ◌≤◌}
use mathlib.Core.Path.{◌≡◌, refl, ap}
use mathlib.Core.Bool.{true, false≢true, not, ◌&&◌}
use mathlib.Core.List.{List, [], ◌∷◌}
use native.Mathlib.Nat.{mul-le-mul_right, suc-mul}
use native.Mathlib.Omega.{arith}
use lib.Dec.{ltb, leb, eqb}
use lib.ListN.{get_or, length, length-append, length-take}
use borrow.Author.Tests.{leb-true, ltb-true, eqb-true}
use Rattle.scalar.specs.declared.Whole.{Whole}
use Rattle.scalar.specs.declared.Whole.TheVariants as W
use Rattle.scalar.specs.Reading.{whole_of}
use Rattle.segment.specs.Blocks.{product}
use Rattle.manual.specs.Values.{same, repeated, cycle, in_range, offset, in_ranges, ravel_offset}
use Rattle.manual.specs.Instructions.{words_from}
use Rattle.manual.proofs.Tests.{both_hold}

pub same_lists : (a b : List ℕ) → same a b ≡ true → a ≡ b
same_lists [] [] h = refl
same_lists [] (y ∷ b) h = cc
same_lists (x ∷ a) [] h = cc
same_lists (x ∷ a) (y ∷ b) h =
    let k = both_hold (eqb x y) (same a b) h in
    let p = eqb-true x y k.0 in
    let q = same_lists a b k.1 in
    cc

-- A scalar has no lengths and one element.
pub no_lengths : (l : List ℕ) → length l ≡ 0 → product l ≡ 1
no_lengths [] h = refl
no_lengths (x ∷ l) h = absurd (omega arith)

-- A vector has as many elements as its one length.
pub one-length : (l : List ℕ) → length l ≤ 1 → (length l ≡ 0 → ⊥) → get_or l 0 0 ≡ product l
one-length [] h some = absurd (some refl)
one-length (x ∷ []) h some = omega arith
one-length (x ∷ y ∷ l) h some = absurd (omega arith)

repeated-long : (n : ℕ) (l : List ℕ) → 0 < length l → n ≤ length (repeated n l)
repeated-long zero l h = omega arith
repeated-long (suc n) l h = omega (arith, repeated-long n l h, length-append l (repeated n l))

-- Of nothing there is no cycle.
pub length-cycle : (n : ℕ) (l : List ℕ) → (length l ≡ 0 → n ≡ 0) → length (cycle n l) ≡ n
unfolding cycle
length-cycle n [] h = rw (h refl)
length-cycle n (x ∷ l) h = omega (arith, length-take n (repeated n (x ∷ l)), repeated-long n (x ∷ l) (omega arith))

pub words-length : (n : ℕ) (code : List ℕ) (place : ℕ) → length (words_from n code place) ≡ n
words-length zero code place = refl
words-length (suc n) code place = ap suc (words-length n code (place + 4))

-- ---- subscripts

pub offset-below : (origin : ℕ) (x : Whole) (l : ℕ) → in_range origin x l ≡ true → offset origin x < l
offset-below origin (W.Number negative n) l h =
    let k = both_hold (leb origin n) (ltb n (l + origin)) (both_hold (not negative) (leb origin n && ltb n (l + origin)) h).1 in
    omega (arith, leb-true origin n k.0, ltb-true n (l + origin) k.1)
offset-below origin W.Fraction l h = absurd (false≢true h)
offset-below origin W.Character l h = absurd (false≢true h)

-- a place in a row, with a place in the rows behind it
pub row_below : (i l p r : ℕ) → i < l → r < p → i * p + r < l * p
row_below i l p r h k = omega (arith, mul-le-mul_right {m = suc i} {n = l} p h, suc-mul i p)

pub place-below : (origin : ℕ) (ws ls : List ℕ) → length ws ≡ length ls → in_ranges origin ws ls ≡ true → ravel_offset origin ws ls < product ls
place-below origin [] [] e h = omega arith
place-below origin [] (l ∷ ls) e h = absurd (omega arith)
place-below origin (w ∷ ws) [] e h = absurd (omega arith)
place-below origin (w ∷ ws) (l ∷ ls) e h =
    let k = both_hold (in_range origin (whole_of w) l) (in_ranges origin ws ls) h in
    row_below (offset origin (whole_of w)) l (product ls) (ravel_offset origin ws ls) (offset-below origin (whole_of w) l k.0)
    (place-below origin ws ls (omega arith) k.1)
