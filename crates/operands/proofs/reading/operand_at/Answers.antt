use mathlib.Core.Path.{sym, ◌∙◌}
use Rattle.operands.proofs.Seen.{operand-under}
use native.Mathlib.Omega.{arith}
use Rattle.operands.proofs.reading.operand_at.Goals as goal

pub returns-then-i-top : goal.returns-then-i-top
returns-then-i-top c = cc

pub returns : goal.returns
returns c = let a = c.args in c.word-2.ensures ∙ sym (operand-under a.seg.now a.i (omega arith))
