-- LESS and EQUAL by whether their operands are characters.
use Rattle.std.proofs.Common.{◌≡◌, ℕ, Bool, true, false, cond, ◌&&◌, ◌||◌, eqb, sym, refl, ap₂, Ok}
use Rattle.descriptor.specs.Fields.{is_character}
use Rattle.descriptor.specs.Kinds.{bit}
use Rattle.scalar.specs.Value.{character_code}
use Rattle.scalar.specs.Order.{is_below, is_equal}
use Rattle.scalar.specs.Operators.{less, equal}
use Rattle.scalar.proofs.Operands.{numbers-plain}

module _ (a b : ℕ) where
  by : (t u : Bool) → is_character a ≡ t → is_character b ≡ u → cond t (Ok (bit (is_character b && eqb (character_code a) (character_code b)))) (cond u (Ok 0) (Ok (bit (is_equal a b)))) ≡ equal a b
  unfolding equal
  by t u h k = ap₂ (λ (x y : Bool). cond x (Ok (bit (is_character b && eqb (character_code a) (character_code b)))) (cond y (Ok 0) (Ok (bit (is_equal a b))))) (sym h) (sym k)

  pub equal-first : is_character a ≡ true → Ok (bit (is_character b && eqb (character_code a) (character_code b))) ≡ equal a b
  equal-first h = by true (is_character b) h refl

  pub equal-second : is_character a ≡ false → is_character b ≡ true → Ok 0 ≡ equal a b
  equal-second h k = by false true h k

  pub equal-numbers : is_character a ≡ false → is_character b ≡ false → Ok (bit (is_equal a b)) ≡ equal a b
  equal-numbers h k = by false false h k

  pub less-numbers : is_character a ≡ false → is_character b ≡ false → Ok (bit (is_below a b)) ≡ less a b
  unfolding less
  less-numbers h k = sym (numbers-plain a b (Ok (bit (is_below a b))) (ap₂ ◌||◌ h k))
  -- two characters, or a character and a number
