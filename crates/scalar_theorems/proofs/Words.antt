-- What is known of the word that an answer gives.
use Rattle.std.proofs.Common.{Ok, Err}
use Prim.Native.Nat.{ℕ, ◌+◌, ◌-◌, ◌*◌, ◌/◌, ◌%◌, ◌^◌, ◌<◌}
use mathlib.Core.Path.{◌≡◌, sym, ap, subst}
use mathlib.Core.Bool.{Bool, true, cond}
use native.Mathlib.Nat.{lt_of_lt_of_le, mul-lt-mul_of_pos_right, mul-le-mul_left, lt_trans}
use native.Mathlib.Decide.{dec_lt, ℕ_discrete}
use native.Mathlib.Omega.{arith}
use borrow.Author.Tests.{lt-ltb, eqb-true}
use lib.Dec.{lit<}
use lib.Pow.{pow_pos, pow_mono}
use Rattle.trap.specs.declared.Trap.{Trap}
use Rattle.descriptor.specs.Fields.{is_float, integer_word, magnitude}
use Rattle.scalar.specs.Value.{one, units}
use Rattle.scalar.specs.Results.{integer, integer_overflow, rounded, Answer}
use Rattle.scalar.proofs.Rounding.{not-lt-le, integer-over}
use Rattle.scalar.proofs.Units.{units-integer, units-float}
use Rattle.scalar_theorems.specs.Line.{middle}
use Rattle.scalar_theorems.specs.Rounding.{Nearest}
use Rattle.scalar_theorems.proofs.Rounding.{rounds}

-- an answer is not both a word and a trap
pub never : {x : Answer} {w : ℕ} {t : Trap} → x ≡ Ok w → x ≡ Err t → ⊥
never p q = let k : ◌≡◌ {A = ℕ} 0 1 = cc in omega arith

pub same_word : {x : Answer} {w v : ℕ} → x ≡ Ok w → x ≡ Ok v → v ≡ w
same_word p q = cc

pub integer-word : (s n w : ℕ) → integer s n ≡ Ok w → (n < 2 ^ 23) × (integer_word s n ≡ w)
unfolding integer
integer-word s n w h = elim (dec_lt n (2 ^ 23)) [
  | yes l ↦ (l, same_word h (ap (λ (t : Bool). cond t (Ok (integer_word s n)) integer_overflow) (lt-ltb n (2 ^ 23) l)))
  | no l ↦ absurd (never h (sym (integer-over s n (not-lt-le l))))
]

pub rounded-word : (s num den w : ℕ) → s < 2 → 0 < den → 0 < num → rounded s num den ≡ Ok w → Nearest s num den w
rounded-word s num den w q p z h = elim (dec_lt num (2 ^ 22 * den)) [
  | yes l ↦ absurd (never h (rounds.under s num den z l))
  | no l ↦ elim (dec_lt num ((2 ^ 24 - 1) * 2 ^ 254 * den)) [
    | yes g ↦ let r = rounds.near s num den q p (not-lt-le l) g in subst (λ (v : ℕ). Nearest s num den v) (same_word h r.1) r.2
    | no g ↦ absurd (never h (rounds.over s num den p (not-lt-le g)))
  ]
]

pub float-pos : (w : ℕ) → is_float w ≡ true → 0 < w
float-pos w h = let k = eqb-true (w / 2 ^ 30 % 2) 1 h in omega arith

-- every number lies below 2 ^ 128
pub below-middle : (w : ℕ) → units w < middle
below-middle w = elim (ℕ_discrete (w / 2 ^ 30 % 2) 0) [
  | yes h ↦ subst (λ (x : ℕ). x < middle) (sym (units-integer w h)) (lt_trans (mul-lt-mul_of_pos_right {m = magnitude w} {n = 2 ^ 23} {k = one} (omega arith) (pow_pos 150)) (lit< tt))
  | no h ↦ subst (λ (x : ℕ). x < middle) (sym (units-float w h)) (lt_of_lt_of_le (mul-lt-mul_of_pos_right {m = 2 ^ 22 + w % 2 ^ 22} {n = 2 ^ 23} {k = 2 ^ (w / 2 ^ 22 % 2 ^ 8)} (omega arith) (pow_pos (w / 2 ^ 22 % 2 ^ 8))) (mul-le-mul_left {m = 2 ^ (w / 2 ^ 22 % 2 ^ 8)} {n = 2 ^ 255} (2 ^ 23) (pow_mono {i = w / 2 ^ 22 % 2 ^ 8} {j = 255} (omega arith))))
]
