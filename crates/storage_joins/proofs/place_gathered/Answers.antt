use mathlib.Core.Path.{sym}
use native.Mathlib.Omega.{arith}
use lib.Seq.{length-take-le}
use Rattle.storage_joins.proofs.Joining.{gathered}
use Rattle.storage_joins.proofs.place_gathered.Goals as goal

pub slice_bounds-place-end-2 : goal.slice_bounds-place-end-2
slice_bounds-place-end-2 c = sym (length-take-le _ _ (omega arith))

pub returns : goal.returns
returns c = let e = gathered c.args.seg.now c.args.first c.args.second c.args.scratch.now c.gather.ensures c.gather-2.ensures c.requires in record { value = rw e at c.place.ensures.value; seg_after = rw e at c.place.ensures.seg_after }
