use mathlib.Core.Path.{refl, sym}
use Prim.Native.Nat.{ℕ}
use native.Mathlib.Omega.{arith}
use Rattle.instruction.specs.Tables.{etc_of}
use Rattle.instruction.specs.declared.length.Length.{Length}
use Rattle.instruction.specs.declared.length.Length.TheVariants.{Fixed, ByCount, NoInstruction}
use Rattle.instruction.specs.Lengths.{etc_length}
use Rattle.instruction.proofs.Lengths.{length_from}
use Rattle.instruction.proofs.length.etc_length.Goals as goal

abbrev by : ℕ → Length
by number = etc_length (etc_of number)

pub returns-then-number-lt10 : goal.returns-then-number-lt10
unfolding etc_of
returns-then-number-lt10 c = sym (length_from by (Fixed 1) 0 9 refl c.args.number (omega arith) (omega arith))

pub returns-then-number-lt11 : goal.returns-then-number-lt11
unfolding etc_of
returns-then-number-lt11 c = sym (length_from by (Fixed 5) 10 10 refl c.args.number (omega arith) (omega arith))

pub returns-then-number-lt12 : goal.returns-then-number-lt12
unfolding etc_of
returns-then-number-lt12 c = sym (length_from by ByCount 11 11 refl c.args.number (omega arith) (omega arith))

pub returns-then-number-lt13 : goal.returns-then-number-lt13
unfolding etc_of
returns-then-number-lt13 c = sym (length_from by (Fixed 1) 12 12 refl c.args.number (omega arith) (omega arith))

pub returns-then-number-lt16 : goal.returns-then-number-lt16
unfolding etc_of
returns-then-number-lt16 c = sym (length_from by (Fixed 3) 13 15 refl c.args.number (omega arith) (omega arith))

pub returns-then-number-lt17 : goal.returns-then-number-lt17
unfolding etc_of
returns-then-number-lt17 c = sym (length_from by (Fixed 1) 16 16 refl c.args.number (omega arith) (omega arith))

pub returns-then-number-lt18 : goal.returns-then-number-lt18
unfolding etc_of
returns-then-number-lt18 c = sym (length_from by (Fixed 3) 17 17 refl c.args.number (omega arith) (omega arith))

pub returns-then-number-lt21 : goal.returns-then-number-lt21
unfolding etc_of
returns-then-number-lt21 c = sym (length_from by (Fixed 1) 18 20 refl c.args.number (omega arith) (omega arith))

pub returns : goal.returns
unfolding etc_of
returns c = sym (length_from by NoInstruction 21 255 refl c.args.number (omega arith) (omega arith))
