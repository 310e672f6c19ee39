-- The rounding of a magnitude num / den in units of 2 ^ -150: to the nearest float, ties to even; underflow is judged before
-- rounding, overflow after. A float is any word with bit 30 set. Distances are taken times den. Assumes nothing.
use Rattle.std.specs.Prelude.{ℕ, ◌-◌, ◌*◌, ◌%◌, ◌^◌, ◌≤◌, ◌<◌, ◌≡◌, true, ◌⊎◌, Ok}
use Rattle.descriptor.specs.Fields.{sign, is_float, fraction}
use Rattle.scalar.specs.Value.{units}
use Rattle.scalar.specs.Results.{underflow, overflow, rounded}
use Rattle.scalar_theorems.specs.Line.{gap}

-- w is the nearest float to num / den units, with the sign s.
pub record Nearest (s num den w : ℕ) : Type 0 where
  pub word : w < 2 ^ 32
  pub float : is_float w ≡ true
  pub signed : sign w ≡ s
  -- no float lies nearer
  pub nearest : (v : ℕ) → is_float v ≡ true → gap num (units w * den) ≤ gap num (units v * den)
  -- where another one lies as near, this one's last digit is 0
  pub even : (v : ℕ) → is_float v ≡ true → gap num (units w * den) ≡ gap num (units v * den) → (units v ≡ units w) ⊎ (fraction w % 2 ≡ 0)

pub record Rounds : Type 0 where
  pub zero : (s den : ℕ) → rounded s 0 den ≡ Ok 0
  -- below 2 ^ -128, which is 2 ^ 22 units
  pub under : (s num den : ℕ) → 0 < num → num < 2 ^ 22 * den → rounded s num den ≡ underflow
  -- from halfway between the greatest float, (2 ^ 23 - 1) * 2 ^ 255 units, and 2 ^ 128, which is 2 ^ 23 * 2 ^ 255
  pub over : (s num den : ℕ) → 0 < den → (2 ^ 24 - 1) * 2 ^ 254 * den ≤ num → rounded s num den ≡ overflow
  -- between
  pub near : (s num den : ℕ) → s < 2 → 0 < den → 2 ^ 22 * den ≤ num → num < (2 ^ 24 - 1) * 2 ^ 254 * den → (w : ℕ) × (rounded s num den ≡ Ok w) × Nearest s num den w
