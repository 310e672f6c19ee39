use mathlib.Core.Path.{refl, sym}
use Prim.Native.Nat.{ℕ}
use native.Mathlib.Omega.{arith}
use Rattle.instruction.specs.Tables.{memory_of}
use Rattle.instruction.specs.declared.length.Length.{Length}
use Rattle.instruction.specs.declared.length.Length.TheVariants.{ByAddress, NoInstruction}
use Rattle.instruction.specs.Lengths.{memory_length}
use Rattle.instruction.proofs.Lengths.{length_from}
use Rattle.instruction.proofs.length.memory_length.Goals as goal

abbrev by : ℕ → Length
by number = memory_length (memory_of number)

pub returns-then-number-lt1 : goal.returns-then-number-lt1
unfolding memory_of
returns-then-number-lt1 c = sym (length_from by NoInstruction 0 0 refl c.args.number (omega arith) (omega arith))

pub returns-then-number-lt20 : goal.returns-then-number-lt20
unfolding memory_of
returns-then-number-lt20 c = sym (length_from by ByAddress 1 19 refl c.args.number (omega arith) (omega arith))

pub returns : goal.returns
unfolding memory_of
returns c = sym (length_from by NoInstruction 20 255 refl c.args.number (omega arith) (omega arith))
