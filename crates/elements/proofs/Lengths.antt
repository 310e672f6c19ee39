-- A loop over the lengths of shapes: a product up to a bound.
use Prim.Native.Nat.{ℕ, zero, suc, ◌+◌, ◌*◌, ◌^◌, ◌≤◌, ◌<◌, min}
use native.Mathlib.Nat.{mul_assoc, mul-one, one-mul, mul-zero, mul-suc, mul-le-mul, le_of_lt}
use native.Mathlib.Decide.{dec_lt}
use native.Mathlib.Numerals.{add-one}
use native.Mathlib.Omega.{arith}
use mathlib.Core.Path.{◌≡◌, sym, ap, ◌∙◌}
use mathlib.Core.List.{List}
use lib.ListN.{length, get_or, drop}
use lib.Seq.{drop-cons, drop-length}
use Rattle.segment.specs.Blocks.{product}

-- over variables: a bound on the way does not change the bounded product
cap-mul : (x p c : ℕ) → min (x * p) c ≡ min (min x c * p) c
cap-mul x p c = elim (dec_lt c x) [
  | yes l ↦ large p l
  | no l ↦ ap (λ (k : ℕ). min (k * p) c) (small l)
]
  where
    small : (c < x → ⊥) → x ≡ min x c
    small l = omega arith

    large : (p : ℕ) → c < x → min (x * p) c ≡ min (min x c * p) c
    large zero l = rw (mul-zero x, mul-zero (min x c))
    large (suc p) l =
        let e : min x c ≡ c = omega arith in
        let f : x * suc p ≡ x * p + x = mul-suc x p in
        let g : c * suc p ≡ c * p + c = mul-suc c p in
        rw (e, f, g) (omega arith)

pub record Bounded (l : List ℕ) (at i : ℕ) : Type 0 where
  pub so_far : min (product l) 65536 ≡ min (at * product (drop i l)) 65536
  pub low : at ≤ 65536

pub bounded-start : {l : List ℕ} → Bounded l 1 0
bounded-start {l} = record { so_far = rw (one-mul (product l)); low = omega arith }

pub bounded-on : {l : List ℕ} {at i r : ℕ} → Bounded l at i → i < length l → r ≡ min (at * get_or l i 0) 65536 → Bounded l r (i + 1)
bounded-on {l} {at} {i} {r} b h e =
    record {
      so_far = rw (add-one i, e) (b.so_far ∙ ap (λ (t : List ℕ). min (at * product t) 65536) (drop-cons l i 0 h)
          ∙ ap (λ (k : ℕ). min k 65536) (sym (mul_assoc at (get_or l i 0) (product (drop (suc i) l)))) ∙ cap-mul (at * get_or l i 0) (product (drop (suc i) l)) 65536);
      low = omega arith;
    }

pub bounded-fits : {l : List ℕ} {at i : ℕ} → Bounded l at i → get_or l i 0 < 2 ^ 32 → at * get_or l i 0 < 2 ^ 64
bounded-fits {l} {at} {i} b h =
    let m : at * get_or l i 0 ≤ 2 ^ 16 * 2 ^ 32 = mul-le-mul b.low (le_of_lt h) in
    omega arith

pub bounded-done : {l : List ℕ} {at i : ℕ} → Bounded l at i → i ≡ length l → at ≡ min (product l) 65536
bounded-done {l} {at} {i} b h =
    let e : min (product l) 65536 ≡ min at 65536 = b.so_far ∙ rw (h, drop-length l) (rw (mul-one at)) in
    omega (arith, b.low)
