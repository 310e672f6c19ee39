use Rattle.fresh_segment.specs.LayOut.{fresh_storage}
use Rattle.operation_parts.proofs.fresh.write_storage.Goals as goal

pub returns : goal.returns
unfolding fresh_storage
returns c = cc
