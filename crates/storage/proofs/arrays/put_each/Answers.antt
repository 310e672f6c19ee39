use Rattle.std.proofs.Common.{◌∙◌, arith}
use Rattle.segment.proofs.Copies.{list_on, list_all}
use Rattle.storage.proofs.arrays.put_each.Goals as goal

pub loop-i-preserved : goal.loop-i-preserved
loop-i-preserved c = let a = c.args in cc (list_on c.loop-i.i a.words.now a.seg.now a.at)

pub returns : goal.returns
returns c = c.loop-i.invariant ∙ list_all c.loop-i.i _ _ _ (omega arith)
