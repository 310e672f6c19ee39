use Rattle.fresh_segment.specs.LayOut.{fresh_frame}
use Rattle.operation_parts.proofs.fresh.write_frame.Goals as goal

pub returns : goal.returns
unfolding fresh_frame
returns c = cc
