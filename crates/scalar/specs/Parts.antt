-- What the contracts of the inner functions say. Nothing here need be believed: the operators' contracts do not cite it.
-- Assumes nothing.
use Rattle.std.specs.Prelude.{◌≡◌, ℕ, ◌+◌, ◌-◌, ◌*◌, ◌/◌, ◌%◌, ◌^◌, ◌<◌, ◌≤◌, Bool, cond, ◌&&◌, ◌||◌, ◌⊎◌, ◌==◌, nat_lt, Result, Ok, Err}
use Rattle.trap.specs.declared.Trap.{Trap}
use Rattle.descriptor.specs.Fields.{sign, is_character}
use Rattle.descriptor.specs.Kinds.{bit}
use Rattle.scalar.specs.Value.{units}
use Rattle.scalar.specs.Operators.{sum_sign, sum_size}

-- The magnitude of w is sig * 2 ^ exp units; sig has 23 digits unless it is 0.
pub record Unpacked (w sig exp : ℕ) : Type 0 where
  pub value : units w ≡ sig * 2 ^ exp
  pub short : sig < 2 ^ 23
  pub small : exp < 256
  pub normal : 0 < sig → 2 ^ 22 ≤ sig

-- A magnitude that is not zero.
pub record Normal (sig exp : ℕ) : Type 0 where
  pub long : 2 ^ 22 ≤ sig
  pub short : sig < 2 ^ 23
  pub small : exp < 256

-- Bits 30–23 are clear in both words.
abbrev pub both_small : ℕ → ℕ → Bool
both_small a b = a / 2 ^ 23 % 2 ^ 8 == 0 && b / 2 ^ 23 % 2 ^ 8 == 0

abbrev pub one_character : ℕ → ℕ → Bool
one_character a b = is_character a || is_character b

-- A float, or integer 0.
abbrev pub FloatOrZero : ℕ → Type 0
FloatOrZero w = (w ≡ 0) ⊎ (w / 2 ^ 30 % 2 ≡ 1)

-- The place of a signed magnitude on a line with zero at m.
abbrev pub signed_place : ℕ → ℕ → ℕ → ℕ
signed_place m s n = cond (s == 0) (m + n) (m - n)

-- The place of a word among words of its kind: integers, or floats.
abbrev pub word_place : ℕ → ℕ
word_place w = signed_place (2 ^ 31) (sign w) (w % 2 ^ 31)

-- r is a float, or integer 0, and has the value of w.
pub record AsFloat (w r : ℕ) : Type 0 where
  pub float : FloatOrZero r
  pub size : units r ≡ units w
  pub signed : 0 < units w → sign r ≡ sign w

-- How far the sum of two places around 2 ^ 62 lies from 2 ^ 63.
abbrev pub distance_of : ℕ → ℕ
distance_of x = cond (nat_lt x (2 ^ 63)) (2 ^ 63 - x) (x - 2 ^ 63)

-- The sign and the magnitude of a sum; zero has either sign.
pub record SignedSum (s n t m sign size : ℕ) : Type 0 where
  pub magnitude : size ≡ sum_size s n t m
  pub signed : 0 < size → sign ≡ sum_sign s n t m
  pub bit : sign < 2
  pub short : size < 2 ^ 63

-- What becomes of two operands that were read as zero or one.
abbrev pub combined : (Bool → Bool → Bool) → Result (Bool × Bool) Trap → Result ℕ Trap
combined f (Ok operands) = Ok (bit (f operands.0 operands.1))
combined f (Err t) = Err t
