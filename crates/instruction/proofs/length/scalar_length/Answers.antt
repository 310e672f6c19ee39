use mathlib.Core.Path.{refl, sym}
use Prim.Native.Nat.{ℕ}
use native.Mathlib.Omega.{arith}
use Rattle.operator.specs.Table.{operator_of}
use Rattle.instruction.specs.declared.length.Length.{Length}
use Rattle.instruction.specs.declared.length.Length.TheVariants.{Fixed, NoInstruction}
use Rattle.instruction.specs.Lengths.{scalar_length}
use Rattle.instruction.proofs.Lengths.{length_from}
use Rattle.instruction.proofs.length.scalar_length.Goals as goal

abbrev by : ℕ → Length
by number = scalar_length (operator_of number)

pub returns-then-number-lt16 : goal.returns-then-number-lt16
unfolding operator_of
returns-then-number-lt16 c = sym (length_from by (Fixed 1) 0 15 refl c.args.number (omega arith) (omega arith))

pub returns : goal.returns
unfolding operator_of
returns c = sym (length_from by NoInstruction 16 255 refl c.args.number (omega arith) (omega arith))
