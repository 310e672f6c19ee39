-- Loops that put a text into a buffer, and texts put one after the other.
use Prim.Native.Nat.{ℕ, suc, ◌+◌, ◌-◌, ◌*◌, ◌/◌, ◌≤◌, ◌<◌, min, max}
use native.Mathlib.Nat.{le_of_suc-le-suc, not-suc-le-zero, le_of_lt, eq-zero-or-pos}
use native.Mathlib.Numerals.{add-one}
use native.Mathlib.Omega.{arith}
use mathlib.Core.Logic.{⊎_elim}
use mathlib.Core.Path.{◌≡◌, refl, sym, ap, ◌∙◌}
use mathlib.Core.List.{List, [], ◌∷◌, ◌++◌, append-nil}
use lib.ListN.{length, get_or, set, take, drop, length-set, length-append, length-drop, drop_of_length-le}
use lib.Seq.{sets, length-sets, set_split, drop-cons, drop-length, drop_at, length-take-le, take_all}
use Rattle.segment.proofs.Copies.{sets-out, sets-append}
use Rattle.line_tool.specs.Bytes.{pairs}
use Rattle.line_tool.specs.Writing.{Wrote, wrote, writes, digits, decimal}

-- the rest of a text is still to be put, from another place on
pub record Putting (all out₀ : List ℕ) (at : ℕ) (rest out : List ℕ) (to : ℕ) : Type 0 where
  pub so_far : sets out to rest ≡ sets out₀ at all
  pub as_long : length out ≡ length out₀

module _ {all out₀ : List ℕ} {at : ℕ} where
  pub putting : Putting all out₀ at all out₀ at
  putting = record { so_far = refl; as_long = refl }

  pub putting-on : {rest more out : List ℕ} {to v : ℕ} → Putting all out₀ at rest out to → rest ≡ v ∷ more → Putting all out₀ at more (set out to v) (to + 1)
  putting-on {rest} {more} {out} {to} {v} p e = record { so_far = rw (add-one to) (rw e at p.so_far); as_long = length-set out to v ∙ p.as_long }

  pub put_all : {rest out : List ℕ} {to : ℕ} → Putting all out₀ at rest out to → rest ≡ [] → out ≡ sets out₀ at all
  put_all p e = rw e at p.so_far

  pub put_full : {rest out : List ℕ} {to : ℕ} → Putting all out₀ at rest out to → length out ≤ to → out ≡ sets out₀ at all
  put_full {rest} {out} {to} p h = sym (sets-out rest out to h) ∙ p.so_far

pub rest-on : (s : List ℕ) (i : ℕ) → i < length s → drop i s ≡ get_or s i 0 ∷ drop (i + 1) s
rest-on s i h = rw (add-one i) (drop-cons s i 0 h)

pub rest-none : (s : List ℕ) {i : ℕ} → i ≡ length s → drop i s ≡ []
rest-none s e = rw e (drop-length s)

-- ---- two digits at a time

pairs-short : (l : List ℕ) → length l ≤ 1 → pairs l ≡ []
pairs-short [] h = refl
pairs-short (high ∷ []) h = refl
pairs-short (high ∷ low ∷ l) h = absurd (not-suc-le-zero (le_of_suc-le-suc h))

pub pairs-none : (s : List ℕ) {i : ℕ} → length s / 2 ≤ i → pairs (drop (2 * i) s) ≡ []
pairs-none s {i} h = pairs-short (drop (2 * i) s) (rw (length-drop (2 * i) s) (omega arith))

-- ---- the answer of a text that is put

pub put-done : (text out₀ : List ℕ) (at : ℕ) {out : List ℕ} {to : ℕ} → out ≡ sets out₀ at text → to ≡ max at (min (at + length text) (length out₀)) → wrote to out ≡ writes out₀ at text
unfolding writes
put-done text out₀ at e p = rw (e, p)

-- ---- the digits of a decimal number, the last one first

-- the digits of the rest stand in front of those that are written already
pub record DigitsLeft (n : ℕ) (written : List ℕ) (rest at : ℕ) : Type 0 where
  pub so_far : digits at rest ++ drop at written ≡ decimal n

pub digits-start : (n : ℕ) (ds : List ℕ) → length ds ≡ 10 → DigitsLeft n ds n 10
unfolding decimal
digits-start n ds h =
    let l : length ds ≤ 10 = omega arith in
    record { so_far = rw (drop_of_length-le ds l) (append-nil (digits 10 n)) }

stored : (ds : List ℕ) (at d : ℕ) → at < length ds → drop at (set ds at d) ≡ d ∷ drop (suc at) ds
stored ds at d h =
    ap (λ (l : List ℕ). drop at l) (set_split ds at d h)
    ∙ drop_at (take at ds) (d ∷ drop (suc at) ds) at (length-take-le at ds (le_of_lt h))

pub digits-cut : (n r : ℕ) (ds : List ℕ) → length ds ≡ 10 → drop r ds ≡ decimal n → take (10 - r) (drop r ds) ≡ decimal n
digits-cut n r ds h e = take_all (10 - r) (drop r ds) (rw (length-drop r ds) (omega arith)) ∙ e

-- ---- one text after another

-- past the end one place is as good as another
sets-past : (l b : List ℕ) (i j : ℕ) → length l ≤ i → length l ≤ j → sets l i b ≡ sets l j b
sets-past l b i j h k = sets-out b l i h ∙ sym (sets-out b l j k)

sets-after : (o : List ℕ) (at : ℕ) (a b : List ℕ) (r : ℕ) → r ≡ max at (min (at + length a) (length o)) → sets (sets o at a) r b ≡ sets o at (a ++ b)
sets-after o at a b r e =
    ⊎_elim
    (λ (h : at + length a - length o ≡ 0). let s : r ≡ at + length a = omega arith in rw s (sym (sets-append a b o at (at + length a) refl)))
    (λ (h : 0 < at + length a - length o).
    sets-past (sets o at a) b r (at + length a) (rw (length-sets o at a) (omega arith)) (rw (length-sets o at a) (omega arith))
    ∙ sym (sets-append a b o at (at + length a) refl))
    (eq-zero-or-pos (at + length a - length o))

writes-after : (o : List ℕ) (at : ℕ) (a b : List ℕ) (r : ℕ) (out : List ℕ) → wrote r out ≡ writes o at a → writes out r b ≡ writes o at (a ++ b)
unfolding writes
writes-after o at a b r out e =
    let p : r ≡ max at (min (at + length a) (length o)) = ap (λ (w : Wrote). w.place) e in
    let q : out ≡ sets o at a = ap (λ (w : Wrote). w.buffer) e in
    put-done (a ++ b) o at
    (rw q (sets-after o at a b r p))
    (rw (q, length-sets o at a, length-append a b) (omega arith))

pub followed : (o : List ℕ) (at : ℕ) (a b : List ℕ) {out out' : List ℕ} {r r' : ℕ} → wrote r out ≡ writes o at a → wrote r' out' ≡ writes out r b → wrote r' out' ≡ writes o at (a ++ b)
followed o at a b {out} {out'} {r} e f = f ∙ writes-after o at a b r out e
