use Rattle.fresh_segment.specs.LayOut.{fresh_head}
use Rattle.operation_parts.proofs.fresh.write_head.Goals as goal

pub returns : goal.returns
unfolding fresh_head
returns c = cc
