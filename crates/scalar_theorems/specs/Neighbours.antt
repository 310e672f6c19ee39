-- FLOOR gives the greatest whole number not larger, CEILING the least not smaller, and neither traps on a number. Assumes nothing.
use Rattle.std.specs.Prelude.{ℕ, ◌^◌, ◌≤◌, ◌<◌, ◌≡◌, false, Ok}
use Rattle.descriptor.specs.Fields.{is_character}
use Rattle.scalar.specs.Operators.{floor, ceiling}
use Rattle.scalar_theorems.specs.Line.{line_place, IsWhole}

-- r is the greatest whole number not larger than a.
pub record Greatest (a r : ℕ) : Type 0 where
  pub whole : IsWhole (line_place r)
  pub under : line_place r ≤ line_place a
  pub most : (p : ℕ) → IsWhole p → p ≤ line_place a → p ≤ line_place r

-- r is the least whole number not smaller than a.
pub record Least (a r : ℕ) : Type 0 where
  pub whole : IsWhole (line_place r)
  pub over : line_place a ≤ line_place r
  pub fewest : (p : ℕ) → IsWhole p → line_place a ≤ p → line_place r ≤ p

pub record Neighbours : Type 0 where
  pub floor : (a : ℕ) → a < 2 ^ 32 → is_character a ≡ false → (r : ℕ) × (floor a ≡ Ok r) × Greatest a r
  pub ceiling : (a : ℕ) → a < 2 ^ 32 → is_character a ≡ false → (r : ℕ) × (ceiling a ≡ Ok r) × Least a r
