-- Document 01's marked examples M5 to M10, and more of them, by computation from the definitions. Assumes nothing.
use Rattle.std.specs.Prelude.{◌≡◌, true, refl, Ok, Err}
use Rattle.std.specs.Float.Ieee.{size}
use Rattle.descriptor.specs.Fields.{integer_word}
use Rattle.trap.specs.Trap.{trap_of}
use Rattle.scalar.specs.declared.Whole.TheVariants as W
use Rattle.scalar.specs.declared.Truth.TheVariants as T
use Rattle.scalar.specs.Value.{units}
use Rattle.scalar.specs.Order.{side, is_below, is_equal}
use Rattle.scalar.specs.Results.{integer, float, rounded, result}
use Rattle.scalar.specs.Reading.{whole_units, whole_of, truth_units, truth_of}
use Rattle.scalar.specs.Operators.{negative, ones, whole_near, floor, ceiling, not_of, convert, sum_sign, sum_size, plus, minus, times, sum, difference, product, ratio_of, quotient, logical_product, logical_sum, less, equal}

pub record Marked : Type 0 where
  -- 1 as a float; 1 divided by 2; 8,388,607 + 1; 4,194,304 + 0.5 and 4,194,305 + 0.5, with the floats that they are
  pub m5 : rounded 0 (units 1) 1 ≡ Ok 0x60000000
  pub m6 : quotient 1 2 ≡ Ok 0x5fc00000
  pub m7 : sum 8388607 1 ≡ Err (trap_of 8 1)
  pub m8 : sum 4194304 0x5fc00000 ≡ Ok 0x65800000
  pub m8-float : rounded 0 (units 4194304) 1 ≡ Ok 0x65800000
  pub m9 : sum 4194305 0x5fc00000 ≡ Ok 0x65800002
  pub m9-float : rounded 0 (units 4194306) 1 ≡ Ok 0x65800002
  -- SHORTCONST 0x4005, 0x5005 and 0x5000: sign and magnitude
  pub m10-plus : integer_word 0 5 ≡ 5
  pub m10-minus : integer_word 1 5 ≡ 0x80000005
  pub m10-zero : integer_word 1 0 ≡ 0

pub marked : Marked
unfolding units integer float rounded result sum_sign sum_size plus sum ratio_of quotient size
marked = record { m5 = refl; m6 = refl; m7 = refl; m8 = refl; m8-float = refl; m9 = refl; m9-float = refl; m10-plus = refl; m10-minus = refl; m10-zero = refl }

pub record Further : Type 0 where
  -- 0.5 + 0.5 is the float 1, and 1 - 1.0 is integer 0
  pub halves : sum 0x5fc00000 0x5fc00000 ≡ Ok 0x60000000
  pub nothing : difference 1 0x60000000 ≡ Ok 0
  -- the least float times itself; the greatest one doubled
  pub least : product 0x40000000 0x40000000 ≡ Err (trap_of 8 2)
  pub greatest : sum 0x7fffffff 0x7fffffff ≡ Err (trap_of 8 3)
  -- 3.0 * -2; 1 / 3; 1 / 0; 0 / 3
  pub six : product 0x60600000 0x80000002 ≡ Ok 0xe0a00000
  pub third : quotient 1 3 ≡ Ok 0x5f955555
  pub divisor : quotient 1 0 ≡ Err (trap_of 8 4)
  pub zero : quotient 0 3 ≡ Ok 0
  -- -0.5 goes down to -1 and up to 0
  pub down : floor 0xdfc00000 ≡ Ok 0x80000001
  pub up : ceiling 0xdfc00000 ≡ Ok 0
  -- no minus zero
  pub minus-zero : negative 0 ≡ Ok 0
  -- 'A' and 65; a number and a character; two characters
  pub letter : convert 65 ≡ Ok 0x01000041
  pub letter-code : convert 0x01000041 ≡ Ok 65
  pub half : convert 0x5fc00000 ≡ Err (trap_of 8 5)
  pub unlike : equal 65 0x01000041 ≡ Ok 0
  pub alike : equal 0x01000041 0x01000041 ≡ Ok 1
  pub typed : sum 1 0x01000041 ≡ Err (trap_of 7 0)
  -- the type error of the second operand goes before the domain error of the first
  pub ordered : logical_product 2 0x01000041 ≡ Err (trap_of 7 0)
  pub outside : logical_sum 2 1 ≡ Err (trap_of 8 5)
  pub not-one : not_of 0x60000000 ≡ Ok 0
  -- -2.0 is whole, 2.5 is not
  pub whole : whole_of 0xe0400000 ≡ W.Number true 2
  pub fraction : whole_of 0x60500000 ≡ W.Fraction
  pub true-float : truth_of 0x60000000 ≡ T.Value true

pub further : Further
unfolding units integer float rounded result whole_units whole_of truth_units truth_of negative ones whole_near floor ceiling not_of convert sum_sign sum_size plus minus times sum difference product ratio_of quotient logical_product logical_sum side is_equal equal size
further =
    record {
      halves = refl;
      nothing = refl;
      least = refl;
      greatest = refl;
      six = refl;
      third = refl;
      divisor = refl;
      zero = refl;
      down = refl;
      up = refl;
      minus-zero = refl;
      letter = refl;
      letter-code = refl;
      half = refl;
      unlike = refl;
      alike = refl;
      typed = refl;
      ordered = refl;
      outside = refl;
      not-one = refl;
      whole = refl;
      fraction = refl;
      true-float = refl;
    }

-- LESS and EQUAL of numbers far apart and near, of which DIFFERENCE traps, and of an integer and a float.
pub record Compared : Type 0 where
  -- a large debit and a large credit: integers, and the greatest floats
  pub debit-below : less 0x807fffff 0x007fffff ≡ Ok 1
  pub credit-above : less 0x007fffff 0x807fffff ≡ Ok 0
  pub debit-unequal : equal 0x807fffff 0x007fffff ≡ Ok 0
  pub debit-difference : difference 0x807fffff 0x007fffff ≡ Err (trap_of 8 1)
  pub far-below : less 0xffffffff 0x7fffffff ≡ Ok 1
  pub far-above : less 0x7fffffff 0xffffffff ≡ Ok 0
  pub far-unequal : equal 0xffffffff 0x7fffffff ≡ Ok 0
  pub far-difference : difference 0xffffffff 0x7fffffff ≡ Err (trap_of 8 3)
  -- the least float and the next
  pub near-below : less 0x40000000 0x40000001 ≡ Ok 1
  pub near-unequal : equal 0x40000000 0x40000001 ≡ Ok 0
  pub near_difference : difference 0x40000000 0x40000001 ≡ Err (trap_of 8 2)
  -- -3 and 2.0; 8,388,607 and the same as a float, and 8,388,608; -1 and the float below it
  pub mixed : less 0x80000003 0x60400000 ≡ Ok 1
  pub whole-equal : equal 0x007fffff 0x65bfffff ≡ Ok 1
  pub whole-level : less 0x007fffff 0x65bfffff ≡ Ok 0
  pub next : less 0x007fffff 0x65c00000 ≡ Ok 1
  pub lower-float : less 0xe0000001 0x80000001 ≡ Ok 1
  -- no number is below itself, zero neither
  pub level : less 0x65c00001 0x65c00001 ≡ Ok 0
  pub zero-level : less 0 0 ≡ Ok 0
  -- a character is not ordered
  pub typed-first : less 0x01000041 0x7fffffff ≡ Err (trap_of 7 0)
  pub typed-second : less 0x7fffffff 0x01000041 ≡ Err (trap_of 7 0)

pub compared : Compared
unfolding units integer float rounded result sum_sign sum_size plus minus difference side is_below is_equal less equal size
compared =
    record {
      debit-below = refl;
      credit-above = refl;
      debit-unequal = refl;
      debit-difference = refl;
      far-below = refl;
      far-above = refl;
      far-unequal = refl;
      far-difference = refl;
      near-below = refl;
      near-unequal = refl;
      near_difference = refl;
      mixed = refl;
      whole-equal = refl;
      whole-level = refl;
      next = refl;
      lower-float = refl;
      level = refl;
      zero-level = refl;
      typed-first = refl;
      typed-second = refl;
    }
