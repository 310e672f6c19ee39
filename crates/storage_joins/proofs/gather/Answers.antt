use Rattle.segment.proofs.Copies.{run_on}
use Rattle.storage_joins.proofs.gather.Goals as goal

pub loop-i-preserved : goal.loop-i-preserved
loop-i-preserved c = cc (run_on c.loop-i.i c.args.seg.now c.args.out.now c.index-start.result c.args.at)
