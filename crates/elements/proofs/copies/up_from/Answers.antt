use Rattle.std.proofs.Common.{◌∙◌, arith}
use Rattle.elements.proofs.Filling.{begun, filled_on, filled-all, length-up_from, get_or-up_from}
use Rattle.elements.proofs.copies.up_from.Goals as goal

pub loop-i-init : goal.loop-i-init
loop-i-init c = begun

pub loop-i-preserved : goal.loop-i-preserved
loop-i-preserved c = filled_on c.loop-i.invariant (rw (length-up_from _ _) c.loop-i-test.true) (omega arith) (get_or-up_from _ _ _ c.loop-i-test.true)

pub returns : goal.returns
returns c = filled-all c.loop-i.invariant (length-up_from _ _ ∙ omega arith) (omega arith)
