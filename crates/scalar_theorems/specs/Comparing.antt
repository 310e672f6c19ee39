-- LESS is the exact order of numbers, and EQUAL their exact equality, an integer against a float too: neither traps. Where the
-- manual's difference is a word, it tells the same: so they are as the manual has them wherever DIFFERENCE does not trap. Of
-- characters they are as the manual has them. Assumes nothing.
use Rattle.std.specs.Prelude.{ℕ, ◌^◌, ◌<◌, ◌≡◌, true, false, ◌||◌, ◌≢◌, ltb, eqb, Ok}
use Rattle.descriptor.specs.Fields.{sign, is_character}
use Rattle.descriptor.specs.Kinds.{bit}
use Rattle.scalar.specs.Value.{character_code}
use Rattle.scalar.specs.Results.{type_error}
use Rattle.scalar.specs.Operators.{difference, less, equal}
use Rattle.scalar_theorems.specs.Line.{line_place}

pub record Compares : Type 0 where
  pub less-exact : (a b : ℕ) → is_character a ≡ false → is_character b ≡ false → less a b ≡ Ok (bit (ltb (line_place a) (line_place b)))
  pub equal-exact : (a b : ℕ) → is_character a ≡ false → is_character b ≡ false → equal a b ≡ Ok (bit (eqb (line_place a) (line_place b)))
  pub less-difference : (a b w : ℕ) → a < 2 ^ 32 → b < 2 ^ 32 → difference a b ≡ Ok w → less a b ≡ Ok (sign w)
  pub equal-difference : (a b w : ℕ) → a < 2 ^ 32 → b < 2 ^ 32 → difference a b ≡ Ok w → equal a b ≡ Ok (bit (eqb w 0))
  -- a character is not ordered, and equal to another of its code alone
  pub less-character : (a b : ℕ) → (is_character a || is_character b) ≡ true → less a b ≡ type_error
  pub equal-characters : (a b : ℕ) → is_character a ≡ true → is_character b ≡ true → equal a b ≡ Ok (bit (eqb (character_code a) (character_code b)))
  pub equal-kinds : (a b : ℕ) → is_character a ≢ is_character b → equal a b ≡ Ok 0
