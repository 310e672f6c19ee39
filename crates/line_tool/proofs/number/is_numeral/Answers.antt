use native.Mathlib.Omega.{arith}
use mathlib.Core.Path.{refl}
use Rattle.line_tool.proofs.Numerals.{numeral-stop, numeral-on, numeral-all}
use Rattle.line_tool.proofs.number.is_numeral.Goals as goal

pub loop-b-init : goal.loop-b-init
loop-b-init c = record { so_far = refl }

pub returns-then-base-digit : goal.returns-then-base-digit
returns-then-base-digit c = numeral-stop c.loop-b.invariant (omega arith) (omega arith)

pub loop-b-preserved : goal.loop-b-preserved
loop-b-preserved c = numeral-on c.loop-b.invariant (omega arith) (omega arith)

pub returns : goal.returns
returns c = numeral-all c.loop-b.invariant (omega arith)
