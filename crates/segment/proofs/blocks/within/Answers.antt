use Rattle.std.proofs.Common.{refl}
use Rattle.segment.proofs.Parts.{within-got}
use Rattle.segment.proofs.blocks.within.Goals as goal

pub returns : goal.returns
returns c = let a = c.args in rw c.unwrap_or.ensures (within-got a.seg.now a.start a.count _ _ refl c.get.ensures.lookup)
